use Rattle.std.specs.Prelude.{◌≡◌, ◌+◌, ◌<◌, ◌≤◌, ℕ, All}
use Rattle.std.proofs.Common.{◌∙◌, ap, arith, subst, sym}
use Rattle.otp_base.specs.declared.base.Counts.{Counts}
use Rattle.otp_core.specs.View.{View}
use Rattle.otp_rules.specs.Fit.{IsDistinct}
use Rattle.otp_rules.specs.Needs.{numbers_of}
use Rattle.otp_rules.specs.State.{State}
use Rattle.otp_driver.proofs.driven.supervisor.Supervisor.happen.Goals as goal

pub invariant_of-self : goal.invariant_of-self
invariant_of-self c =
    let old : View = c.self.inside.core in
    let new : View = c.happen.new.core in
    let i = c.self.invariant in
    let base : new.base ≡ old.base = c.happen.ensures.base in
    let given : new.earlier.greatest_number ≡ old.earlier.greatest_number = ap (λ (x : Counts). x.greatest_number) c.happen.ensures.earlier in
    let low : old.earlier.greatest_number ≤ c.args.last = omega (arith, c.greatest_number.ensures.greatest) in
    let above : All (λ n. old.earlier.greatest_number < n) (numbers_of new.history) = c.happen.ensures.above old.earlier.greatest_number low i.above in
    record {
      flags = i.flags ∙ ap (λ (s : State). s.flags) (sym base);
      apart = subst (λ (n : ℕ). IsDistinct (n + 1) new.base) (sym given) (subst (λ (s : State). IsDistinct (old.earlier.greatest_number + 1) s) (sym base) i.apart);
      above = subst (λ (n : ℕ). All (λ m. n < m) (numbers_of new.history)) (sym given) above;
      answered = c.happen.ensures.answered i.answered;
    }
