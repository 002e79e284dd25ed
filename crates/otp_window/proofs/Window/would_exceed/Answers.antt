use Rattle.std.proofs.Common.{rules, ◌≡◌, ◌≤◌, ◌++◌, ◌∷◌, [], All, ℕ, List, sym, subst, ◌∙◌}
use Rattle.std.specs.Prelude.{nat_lt}
use Rattle.otp_window.specs.Kept.{kept_of}
use Rattle.otp_window.specs.Period.{in_period}
use Rattle.otp_window.specs.View.{WindowView}
use Rattle.otp_window.proofs.Crowded.{kept_alike}
use Rattle.otp_window.proofs.Window.would_exceed.Goals as goal

pub returns-clause-by_kept : goal.returns-clause-by_kept
returns-clause-by_kept c all ordered latest same =
    let before : List ℕ = c.self.inside.past.stamps in
    let t : ℕ = c.args.now in
    let IsLatest : WindowView → Type 0 = λ v. All (λ s. s ≤ t) v.stamps in
    let IsSame : WindowView → Type 0 = λ v. kept_of v.intensity all ≡ kept_of v.intensity v.stamps in
    let t_latest : All (λ s. s ≤ t) before = subst IsLatest (sym c.self.view_is) c.requires in
    let alike : kept_of c.self.inside.intensity before ≡ kept_of c.self.inside.intensity all = sym (subst IsSame (sym c.self.view_is) same) in
    let asked : c.is_crowded_with.result ≡ nat_lt c.self.inside.intensity (in_period c.self.inside.period (before ++ t ∷ []) t) = search rules in
    let Answers : WindowView → Type 0 = λ v. c.is_crowded_with.result ≡ nat_lt v.intensity (in_period v.period (all ++ t ∷ []) t) in
    subst Answers c.self.view_is (asked ∙ kept_alike c.self.inside.intensity c.self.inside.period t before all alike c.self.invariant.ordered t_latest ordered latest)
