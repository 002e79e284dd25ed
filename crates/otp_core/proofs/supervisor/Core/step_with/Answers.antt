use Rattle.std.proofs.Common.{rules, ◌≡◌, ℕ, ◌≤◌, ◌++◌, ◌∷◌, [], All, List, drop, length, take, max, ap, ◌∙◌, sym, arith, subst}
use Rattle.std.proofs.lemmas.List.{append_assoc, length-append}
use Rattle.std.proofs.Math.Seq.{drop-append_seam, take-append_seam}
use Rattle.otp_rules.specs.Answers.{IsKeptIn}
use Rattle.otp_rules.specs.declared.call.Answered.{Answered}
use Rattle.otp_spec.specs.declared.child.ChildSpec.{ChildSpec}
use Rattle.otp_spec.specs.declared.flags.SupFlags.{SupFlags}
use Rattle.otp_rules.specs.declared.event.Effect.{Effect}
use Rattle.otp_rules.specs.declared.event.Event.{Event}
use Rattle.otp_rules.specs.State.{Outcome, State}
use Rattle.otp_rules.specs.Step.{step}
use Rattle.otp_rules.specs.Run.{state_after}
use Rattle.otp_rules.specs.Cuts.{base_of, greater_of, greatest_call, told_before, Earlier}
use Rattle.otp_rules.specs.Needs.{needs_number, numbers_of}
use Rattle.std.specs.Prelude.{Some, is_some, ◌<◌}
use Rattle.otp_machine.specs.Seen.{outcome_of}
use Rattle.otp_core.specs.CoreInside.{dropped, events_of, first_of, one_if}
use Rattle.otp_core.specs.View.{View, state_of, stored_of}
use Rattle.otp_core.proofs.Full.{few_stored}
use Rattle.otp_core.proofs.Lawful.{lawful_on}
use Rattle.otp_core.proofs.Runs.{keeps_on, runs_on}
use Rattle.otp_core.proofs.Drawn.{drawn_is, at_most_one, few_starts, last_on, reached_on, starts_on}
use Rattle.otp_core.proofs.supervisor.Core.step_with.Goals as goal

pub invariant_of-self : goal.invariant_of-self
invariant_of-self g c =
    let before : Outcome = outcome_of c.self.inside.machine in
    let after : Outcome = outcome_of c.step-number.new.self in
    let event : Event = record { reading = c.args.reading; number = c.step-number.result; kind = c.args.kind.now } in
    let events : List Event = events_of c.self.inside in
    let longer : List Event = c.push.new.self.past ++ c.push.new.self.events in
    let more : longer ≡ events ++ event ∷ [] =
    ap (λ (p : List Event). p ++ c.push.new.self.events) c.push.ensures.past ∙ ap (λ (es : List Event). c.self.inside.history.past ++ es) c.push.ensures.events
    ∙ sym (append_assoc c.self.inside.history.past c.self.inside.history.events (event ∷ [])) in
    let moved : after.state ≡ (step before.state event).state =
    ap (λ (o : Outcome). o.state) c.step-number.ensures.outcome ∙ ap (λ (o : Outcome). o.state) (c.orders_are_appended.ensures event before) in
    let flags : after.state.flags ≡ before.state.flags = ap (λ (s : State). s.flags) moved ∙ (c.step_keeps_plan.ensures before.state event).0 in
    let specs : after.state.specs ≡ before.state.specs = ap (λ (s : State). s.specs) moved ∙ (c.step_keeps_plan.ensures before.state event).1 in
    let last : after.state.last ≡ max event.reading before.state.last = ap (λ (s : State). s.last) moved ∙ c.step_stamps.ensures before.state event in
    let count : length after.state.specs ≡ length before.state.specs = ap (λ (xs : List ChildSpec). length xs) specs in
    let intensity : after.state.flags.intensity ≡ before.state.flags.intensity = ap (λ (f : SupFlags). f.intensity) flags in
    let first : State = first_of c.self.inside in
    let x : Earlier = dropped c.self.inside in
    let of : State → Earlier = λ s. told_before s.replies s.ends in
    let y : Earlier = of (state_after first c.push.new.self.past) in
    let same : y ≡ x = ap (λ (p : List Event). of (state_after first p)) c.push.ensures.past in
    let stored : length c.self.inside.history.events ≡ length (stored_of c.args.self.now) =
    ap (λ (es : List Event). length es) (sym (drop-append_seam c.self.inside.history.past c.self.inside.history.events)) ∙ ap (λ (v : View). length (stored_of v)) c.self.view_is in
    let needs : is_some event.number ≡ needs_number (state_after first events) event.reading event.kind =
    c.step-number.ensures.starts ∙ sym (c.cuts_agree.ensures.needs x.replies x.ends before.state event.reading event.kind)
    ∙ ap (λ (s : State). needs_number s event.reading event.kind) c.self.invariant.runs in
    let numbers : (n : ℕ) → event.number ≡ Some n → All (λ m. m < n) (numbers_of events) =
    λ n is. subst (λ (v : View). All (λ m. m < n) (numbers_of v.history)) (sym c.self.view_is) (c.requires.rises n c.step-number.new.numbers (drawn_is _ _ event.number c.step-number.ensures.drawn n is)) in
    let Reached : ℕ → Type 0 = λ p. All (λ m. m ≤ p) (numbers_of longer) in
    let IsStamped : State → Type 0 = λ s. All (λ t. t ≤ s.last) s.stamps in
    record {
      runs = runs_on x y first before.state after.state events longer event moved (c.cuts_agree.ensures.step x.replies x.ends before.state event).0 same more c.self.invariant.runs;
      kept = keeps_on before.state after.state (base_of (state_after first c.self.inside.history.past)) (base_of (state_after first c.push.new.self.past)) c.self.inside.history.events c.push.new.self.events event moved c.push.ensures.events
          (ap (λ (p : List Event). base_of (state_after first p)) c.push.ensures.past)
          c.self.invariant.kept;
      lawful = lawful_on first events longer event more c.self.invariant.lawful needs numbers;
      last = c.unwrap_or-self-inside.ensures ∙ last_on c.self.inside.last_number events longer event more c.self.invariant.last;
      numbers = subst Reached (sym c.unwrap_or-self-inside.ensures) (reached_on c.self.inside.last_number events longer event more c.self.invariant.numbers numbers);
      gone = c.self.invariant.gone ∙ ap (λ (z : Earlier). greater_of c.self.inside.earlier.greatest_call (greatest_call z.replies)) (sym same);
      stored = omega (arith, ap (λ (es : List Event). length es) c.push.ensures.events, length-append c.self.inside.history.events (event ∷ []), stored, few_stored c.args.self.now c.requires.room);
      events_cut = c.self.invariant.events_cut ∙ ap (λ (p : List Event). length p) (sym c.push.ensures.past);
      events = c.self.invariant.events;
      counts = c.self.invariant.counts;
      starts = omega (arith, c.self.invariant.starts, starts_on events longer event more, c.one_if.ensures, ap one_if c.is_some.ensures);
      shows = c.self.invariant.shows;
      rated = c.self.invariant.rated;
      sound = record {
        limit = omega (arith, count, c.self.invariant.sound.limit);
        ordered = subst IsStamped (sym moved) (c.step_keeps_stamped.ensures before.state event c.self.invariant.sound.ordered);
        last = omega (arith, last, c.self.invariant.sound.last, c.requires.reading);
        intensity = omega (arith, intensity, c.self.invariant.sound.intensity);
      };
      room = search rules;
    }

pub returns-clause-history : goal.returns-clause-history
returns-clause-history g c =
    let event : Event = record { reading = c.args.reading; number = c.step-number.result; kind = c.args.kind.now } in
    ap (λ (p : List Event). p ++ c.push.new.self.events) c.push.ensures.past ∙ ap (λ (es : List Event). c.self.inside.history.past ++ es) c.push.ensures.events
    ∙ sym (append_assoc c.self.inside.history.past c.self.inside.history.events (event ∷ []))
    ∙ ap (λ (v : View). v.history ++ event ∷ []) c.self.view_is

pub returns-clause-effects : goal.returns-clause-effects
returns-clause-effects g c =
    let before : Outcome = outcome_of c.self.inside.machine in
    let event : Event = record { reading = c.args.reading; number = c.step-number.result; kind = c.args.kind.now } in
    let x : Earlier = dropped c.self.inside in
    ap (λ (o : Outcome). o.orders) c.step-number.ensures.outcome ∙ ap (λ (o : Outcome). o.orders) (c.orders_are_appended.ensures event before)
    ∙ ap (λ (os : List Effect). before.orders ++ os) (sym (c.cuts_agree.ensures.step x.replies x.ends before.state event).1)
    ∙ ap (λ (s : State). before.orders ++ (step s event).orders) (c.self.invariant.runs ∙ ap state_of c.self.view_is)
    ∙ ap (λ (v : View). v.effects ++ (step (state_of c.args.self.now) event).orders) c.self.view_is

pub overflow_add-self : goal.overflow_add-self
overflow_add-self g c =
    let past : List Event = c.self.inside.history.past in
    let events : List Event = c.self.inside.history.events in
    let stored : length events ≡ length (stored_of c.args.self.now) = ap (λ (es : List Event). length es) (sym (drop-append_seam past events)) ∙ ap (λ (v : View). length (stored_of v)) c.self.view_is in
    omega (arith, c.self.invariant.starts, few_starts (past ++ events), length-append past events, c.self.invariant.events_cut, c.self.invariant.events, stored, few_stored c.args.self.now c.requires.room, c.one_if.ensures, at_most_one c.is_some.result)

pub returns-clause-answers : goal.returns-clause-answers
returns-clause-answers g c =
    let i = invariant_of-self g c in
    let before : Outcome = outcome_of c.self.inside.machine in
    let after : Outcome = outcome_of c.step-number.new.self in
    let event : Event = record { reading = c.args.reading; number = c.step-number.result; kind = c.args.kind.now } in
    let moved : after.state ≡ (step before.state event).state =
    ap (λ (o : Outcome). o.state) c.step-number.ensures.outcome ∙ ap (λ (o : Outcome). o.state) (c.orders_are_appended.ensures event before) in
    let first : State = first_of c.self.inside in
    let past : List Event = c.push.new.self.past in
    let events : List Event = c.push.new.self.events in
    let whole : State = state_after first (past ++ events) in
    let stored : state_after (base_of (state_after first (take (length past) (past ++ events)))) (drop (length past) (past ++ events)) ≡ after.state =
    ap (λ (p : List Event). state_after (base_of (state_after first p)) (drop (length past) (past ++ events))) (take-append_seam past events)
    ∙ ap (λ (es : List Event). state_after (base_of (state_after first past)) es) (drop-append_seam past events)
    ∙ sym i.kept in
    let old : List Answered = (state_after first past).replies in
    let orders : List Effect = (step before.state event).orders in
    let x : Earlier = dropped c.self.inside in
    let same_orders : orders ≡ (step (state_of c.args.self.now) event).orders =
    sym (c.cuts_agree.ensures.step x.replies x.ends before.state event).1
    ∙ ap (λ (s : State). (step s event).orders) (c.self.invariant.runs ∙ ap state_of c.self.view_is) in
    let Moved : State → Type 0 = λ s. All (IsKeptIn (old ++ s.replies) s.replies) orders in
    let Whole : State → Type 0 = λ s. All (IsKeptIn s.replies after.state.replies) orders in
    let Stored : State → Type 0 = λ s. All (IsKeptIn whole.replies s.replies) orders in
    let last : State = state_after (base_of (state_after first (take (length past) (past ++ events)))) (drop (length past) (past ++ events)) in
    let Ordered : List Effect → Type 0 = λ os. All (IsKeptIn whole.replies last.replies) os in
    subst Ordered same_orders (subst Stored (sym stored) (subst Whole i.runs (subst Moved (sym moved) (c.answers_are_told.ensures.kept old before.state event))))
