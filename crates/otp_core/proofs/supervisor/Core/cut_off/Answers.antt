use Rattle.std.proofs.Common.{rules, ◌≡◌, ◌++◌, [], All, List, ℕ, ◌≤◌, ap, append-nil, arith, length, length-append, Option, ◌∙◌, sym, subst}
use Rattle.otp_rules.specs.declared.event.Event.{Event}
use Rattle.otp_machine.specs.Events.{Events}
use Rattle.otp_rules.specs.State.{State}
use Rattle.otp_rules.specs.Run.{state_after}
use Rattle.otp_rules.specs.Cuts.{base_of, greater_of, greatest_call, older, told_before, Earlier}
use Rattle.otp_rules.specs.Needs.{IsLawfulHistory, last_number, numbers_of}
use Rattle.otp_machine.specs.Seen.{outcome_of}
use Rattle.otp_core.specs.CoreInside.{dropped, events_of, first_of}
use Rattle.otp_core.specs.View.{View}
use Rattle.otp_core.proofs.Runs.{cut_runs, greater-assoc, greatest_of}
use Rattle.otp_core.proofs.supervisor.Core.cut_off.Goals as goal

pub invariant_of-self : goal.invariant_of-self
invariant_of-self c =
    let s : State = (outcome_of c.self.inside.machine).state in
    let t : State = (outcome_of c.forget.new.self).state in
    let cut : t ≡ base_of s = c.forget.ensures.state in
    let first : State = first_of c.self.inside in
    let events : List Event = events_of c.self.inside in
    let past : c.cut.new.self.past ≡ events = ap (λ (h : Events). h.past) c.cut.ensures in
    let none : c.cut.new.self.events ≡ [] = ap (λ (h : Events). h.events) c.cut.ensures in
    let all : c.cut.new.self.past ++ c.cut.new.self.events ≡ events =
    ap (λ (es : List Event). c.cut.new.self.past ++ es) none ∙ append-nil c.cut.new.self.past ∙ past in
    let x : Earlier = dropped c.self.inside in
    let of : State → Earlier = λ w. told_before w.replies w.ends in
    let whole : State = state_after first events in
    let came : state_after first c.cut.new.self.past ≡ whole = ap (state_after first) past in
    let before : Option ℕ = c.self.inside.earlier.greatest_call in
    let LawfulEvents : List Event → Type 0 = λ es. IsLawfulHistory first es in
    let Reached : List Event → Type 0 = λ es. All (λ m. m ≤ c.self.inside.last_number) (numbers_of es) in
    record {
      runs =
          ap (λ (w : State). older (of w) t) came ∙ ap (older (of whole)) cut ∙ cut_runs x.replies x.ends s whole c.self.invariant.runs
          ∙ sym (ap (state_after first) all);
      kept =
          cut ∙ ap base_of c.self.invariant.runs ∙ ap base_of (sym came)
          ∙ ap (state_after (base_of (state_after first c.cut.new.self.past))) (sym none);
      lawful = subst LawfulEvents (sym all) c.self.invariant.lawful;
      last = c.self.invariant.last ∙ ap last_number (sym all);
      numbers = subst Reached (sym all) c.self.invariant.numbers;
      gone =
          c.greater_of-self-inside.ensures ∙ ap (λ (n : Option ℕ). greater_of n c.greatest.result) c.self.invariant.gone
          ∙ ap (λ (n : Option ℕ). greater_of (greater_of before (greatest_call x.replies)) n) c.greatest.ensures
          ∙ greater-assoc before (greatest_call x.replies) (greatest_call s.replies)
          ∙ ap (greater_of before) (sym (greatest_of x.replies x.ends s whole c.self.invariant.runs) ∙ sym (ap (λ (w : State). greatest_call w.replies) came));
      stored = omega (arith, ap (λ (es : List Event). length es) none);
      events_cut = omega (arith, c.self.invariant.events_cut, c, ap (λ (es : List Event). length es) past, length-append c.self.inside.history.past c.self.inside.history.events);
      events = omega (arith, c.self.invariant.events_cut, c.len.ensures, c.requires.room, ap (λ (v : View). length v.history) c.self.view_is, length-append c.self.inside.history.past c.self.inside.history.events);
      counts = c.self.invariant.counts;
      starts = c.self.invariant.starts ∙ ap (λ (es : List Event). length (numbers_of es)) (sym all);
      shows = c.self.invariant.shows;
      rated = c.self.invariant.rated;
      sound = c.forget.ensures.sound c.self.invariant.sound;
      room = search rules;
    }
