use Rattle.std.proofs.Common.{◌≡◌, ◌+◌, ◌-◌, ◌^◌, ◌++◌, ℕ, List, Option, ap, arith, length, length-append, max, min, sym, ◌∙◌}
use Rattle.otp_base.specs.declared.base.Counts.{Counts}
use Rattle.otp_rules.specs.declared.event.Event.{Event}
use Rattle.otp_rules.specs.Cuts.{greater_of, greatest_call, Earlier}
use Rattle.otp_rules.specs.Needs.{last_number, numbers_of}
use Rattle.otp_rules.specs.Run.{state_after}
use Rattle.otp_rules.specs.State.{State}
use Rattle.otp_machine.specs.Seen.{outcome_of}
use Rattle.otp_core.specs.CoreInside.{dropped, events_of, first_of}
use Rattle.otp_core.specs.Resumed.{counted}
use Rattle.otp_core.specs.View.{View, state_of}
use Rattle.otp_core.proofs.Drawn.{few_starts}
use Rattle.otp_core.proofs.Runs.{greater-assoc, greatest_of}
use Rattle.otp_core.proofs.supervisor.Core.count.Goals as goal

pub overflow_add-result-3 : goal.overflow_add-result-3
overflow_add-result-3 c =
    let past : List Event = c.self.inside.history.past in
    let events : List Event = c.self.inside.history.events in
    omega (arith, c.self.invariant.counts.0, c.self.invariant.counts.1, c.self.invariant.starts, few_starts (past ++ events), length-append past events, c.self.invariant.events_cut, c.self.invariant.events, c.self.invariant.stored)

-- counts are the same where each of them is
same_counts : (a b r n : ℕ) (g : Option ℕ) (a2 b2 r2 n2 : ℕ) (g2 : Option ℕ) → a ≡ a2 → b ≡ b2 → r ≡ r2 → n ≡ n2 → g ≡ g2
    → ◌≡◌ {A = Counts} (record { events = a; starts = b; restarts = r; greatest_number = n; greatest_call = g }) (record { events = a2; starts = b2; restarts = r2; greatest_number = n2; greatest_call = g2 })
same_counts a b r n g a2 b2 r2 n2 g2 events starts restarts number call =
    ap (λ (x : ℕ). record { events = x; starts = b; restarts = r; greatest_number = n; greatest_call = g }) events
    ∙ ap (λ (x : ℕ). record { events = a2; starts = x; restarts = r; greatest_number = n; greatest_call = g }) starts
    ∙ ap (λ (x : ℕ). record { events = a2; starts = b2; restarts = x; greatest_number = n; greatest_call = g }) restarts
    ∙ ap (λ (x : ℕ). record { events = a2; starts = b2; restarts = r2; greatest_number = x; greatest_call = g }) number
    ∙ ap (λ (x : Option ℕ). record { events = a2; starts = b2; restarts = r2; greatest_number = n2; greatest_call = x }) call

pub returns : goal.returns
returns c =
    let past : List Event = c.self.inside.history.past in
    let stored : List Event = c.self.inside.history.events in
    let earlier : Counts = c.self.inside.earlier in
    let s : State = (outcome_of c.self.inside.machine).state in
    let x : Earlier = dropped c.self.inside in
    let whole : State = state_after (first_of c.self.inside) (events_of c.self.inside) in
    let events : earlier.events + c.self.inside.events_cut + c.len.result ≡ earlier.events + length (past ++ stored) =
    omega (arith, c.len.ensures, c.self.invariant.events_cut, length-append past stored) in
    let starts : earlier.starts + c.self.inside.starts ≡ earlier.starts + length (numbers_of (past ++ stored)) = ap (λ (n : ℕ). earlier.starts + n) c.self.invariant.starts in
    let restarts : c.count_restarts.result ≡ min (length whole.stamps) (2 ^ 64 - 1) = c.count_restarts.ensures ∙ sym (ap (λ (v : View). min (length (state_of v).stamps) (2 ^ 64 - 1)) c.self.view_is) in
    let number : c.greatest_number.result ≡ max earlier.greatest_number (last_number (past ++ stored)) =
    c.greatest_number.ensures.greatest ∙ sym (ap (λ (v : View). max v.earlier.greatest_number (last_number v.history)) c.self.view_is) in
    let call : c.greater_of.result ≡ greater_of earlier.greatest_call (greatest_call whole.replies) =
    c.greater_of.ensures ∙ ap (λ (n : Option ℕ). greater_of n c.greatest.result) c.self.invariant.gone
    ∙ ap (λ (n : Option ℕ). greater_of (greater_of earlier.greatest_call (greatest_call x.replies)) n) c.greatest.ensures
    ∙ greater-assoc earlier.greatest_call (greatest_call x.replies) (greatest_call s.replies)
    ∙ ap (greater_of earlier.greatest_call) (sym (greatest_of x.replies x.ends s whole c.self.invariant.runs)) in
    same_counts _ _ _ _ _ _ _ _ _ _ events starts restarts number call ∙ ap counted c.self.view_is
