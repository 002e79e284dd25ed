use Rattle.std.proofs.Common.{rules, ◌≡◌, ◌≤◌, ◌+◌, ◌++◌, ◌∷◌, [], All, length, ℕ, List, ap, sym, subst, ◌∙◌, arith, length-append}
use Rattle.std.specs.List.Sorted.{IsNonDecreasing}
use Rattle.otp_window.specs.Kept.{kept_of}
use Rattle.otp_window.specs.View.{WindowView}
use Rattle.otp_window.proofs.Crowded.{kept_on, rising_push}
use Rattle.std.specs.Prelude.{true, false, nat_lt}
use Rattle.otp_window.specs.Answer.{within}
use Rattle.otp_window.specs.Period.{in_period}
use Rattle.otp_window.specs.declared.Within.{Within}
use Rattle.otp_window.proofs.Crowded.{within_alike}
use Rattle.otp_window.proofs.Window.add.Goals.{then-is_crowded, else-is_crowded}
use Rattle.otp_window.proofs.Window.add.Goals as goal

pub invariant_of-self : goal.invariant_of-self
invariant_of-self c =
    let before : List ℕ = c.self.inside.past.stamps in
    let t : ℕ = c.args.now in
    let limit : ℕ = c.self.inside.intensity in
    let more : c.with_stamp.result.stamps ≡ before ++ t ∷ [] = search rules in
    let IsLatest : WindowView → Type 0 = λ v. All (λ s. s ≤ t) v.stamps in
    let latest : All (λ s. s ≤ t) before = subst IsLatest (sym c.self.view_is) c.requires.latest in
    let long : length c.with_stamp.result.stamps ≡ length before + 1 = ap length more ∙ length-append before (t ∷ []) in
    record {
      ordered = subst IsNonDecreasing (sym more) (rising_push before t c.self.invariant.ordered latest);
      kept = c.push_kept.ensures.items ∙ ap (λ (xs : List ℕ). kept_of limit (xs ++ t ∷ [])) c.self.invariant.kept ∙ kept_on limit t before ∙ ap (kept_of limit) (sym more);
      count = omega (arith, long, c.self.invariant.count, c.saturating_add-self-inside.ensures);
      period = c.self.invariant.period;
      room = search rules;
    }

pub returns-clause-by_kept : goal.returns-clause-by_kept
returns-clause-by_kept c all ordered latest same =
    let before : List ℕ = c.self.inside.past.stamps in
    let t : ℕ = c.args.now in
    let IsLatest : WindowView → Type 0 = λ v. All (λ s. s ≤ t) v.stamps in
    let IsSame : WindowView → Type 0 = λ v. kept_of v.intensity all ≡ kept_of v.intensity v.stamps in
    let t_latest : All (λ s. s ≤ t) before = subst IsLatest (sym c.self.view_is) c.requires.latest in
    let alike : kept_of c.self.inside.intensity before ≡ kept_of c.self.inside.intensity all = sym (subst IsSame (sym c.self.view_is) same) in
    let Answers : WindowView → Type 0 = λ v. ◌≡◌ {A = Within} c.if-is_crowded.result (within v.intensity v.period (all ++ t ∷ []) t) in
    let Asked : WindowView → Type 0 = λ v. c.would_exceed-is_crowded.result ≡ nat_lt v.intensity (in_period v.period (v.stamps ++ t ∷ []) t) in
    let asked : c.would_exceed-is_crowded.result ≡ nat_lt c.self.inside.intensity (in_period c.self.inside.period (before ++ t ∷ []) t) = subst Asked (sym c.self.view_is) c.would_exceed-is_crowded.ensures.answer in
    subst Answers c.self.view_is (elim c.if-is_crowded.branch [
      | then-is_crowded w ↦ w.result-is ∙ within_alike c.self.inside.intensity c.self.inside.period t before all true (sym asked ∙ w.if-is_crowded.true) alike c.self.invariant.ordered t_latest ordered latest
      | else-is_crowded w ↦ w.result-is ∙ within_alike c.self.inside.intensity c.self.inside.period t before all false (sym asked ∙ w.if-is_crowded.false) alike c.self.invariant.ordered t_latest ordered latest
    ])
