use Rattle.std.proofs.Common.{rules, ◌≡◌, ◌≤◌, ◌++◌, [], All, List, ℕ, ap, arith, length, Option, ◌∙◌, sym, subst}
use Rattle.std.proofs.lemmas.List.Elements.{All-nil}
use Rattle.otp_rules.specs.declared.event.Event.{Event}
use Rattle.otp_rules.specs.Cuts.{base_of, greater_of, greatest_call}
use Rattle.otp_rules.specs.Evidence.{IsShowing}
use Rattle.otp_rules.specs.Needs.{IsLawfulHistory, last_number, numbers_of}
use Rattle.otp_rules.specs.Rate.{IsRated}
use Rattle.otp_rules.specs.Run.{state_after}
use Rattle.otp_rules.specs.State.{State}
use Rattle.otp_machine.specs.Seen.{outcome_of}
use Rattle.otp_core.proofs.Runs.{greater_none, is_base, none_older}
use Rattle.otp_core.proofs.supervisor.Core.begin.Goals as goal

pub invariant_of-result : goal.invariant_of-result
invariant_of-result c =
    let s : State = (outcome_of c.args.machine).state in
    let first : State = c.origin_of-origin.result.state in
    let same : first ≡ s = c.origin_of-origin.ensures.state in
    let past : c.new.result.past ≡ [] = c.new.ensures.past in
    let none : c.new.result.events ≡ [] = c.new.ensures.events in
    let all : c.new.result.past ++ c.new.result.events ≡ [] = ap (λ (es : List Event). es ++ c.new.result.events) past ∙ none in
    let begun : state_after first c.new.result.past ≡ s = ap (state_after first) past ∙ same in
    let before : Option ℕ = c.args.earlier.greatest_call in
    let Lawful : List Event → Type 0 = λ es. IsLawfulHistory first es in
    let Reached : List Event → Type 0 = λ es. All (λ m. m ≤ 0) (numbers_of es) in
    record {
      runs =
          none_older s _ _ (ap (λ (w : State). w.replies) begun ∙ c.requires.replies) (ap (λ (w : State). w.ends) begun ∙ c.requires.ends)
          ∙ sym same ∙ sym (ap (state_after first) all);
      kept = is_base s c.requires.replies c.requires.ends ∙ ap base_of (sym begun) ∙ sym (ap (state_after (base_of (state_after first c.new.result.past))) none);
      lawful = subst Lawful (sym all) (tt, (λ i j d less within. absurd (omega (arith, within))));
      last = ap last_number (sym all);
      numbers = subst Reached (sym all) (All-nil (λ m. m ≤ 0));
      gone = greater_none before ∙ ap (greater_of before) (sym (ap greatest_call (ap (λ (w : State). w.replies) begun ∙ c.requires.replies)));
      stored = omega (arith, ap (λ (es : List Event). length es) none);
      events_cut = ap (λ (es : List Event). length es) (sym past);
      events = omega arith;
      counts = c.requires.counts;
      starts = ap (λ (es : List Event). length (numbers_of es)) (sym all);
      shows = subst IsShowing (sym same) c.requires.shows;
      rated = subst IsRated (sym same) c.requires.rated;
      sound = c.requires.sound;
      room = search rules;
    }
