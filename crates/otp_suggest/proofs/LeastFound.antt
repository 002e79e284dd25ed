-- The least intensity, where no other one is left between one with which the root survives and one with which it doesn't.
use Rattle.std.specs.Prelude.{◌≡◌, ℕ, ◌+◌, ◌-◌, ◌<◌, ◌≤◌}
use Rattle.std.proofs.Common.{arith, subst, sym}
use Rattle.otp_file.specs.Trees.{Tree}
use Rattle.otp_costs.specs.declared.limits.steady.Verdict.TheVariants.{Falls, Lasts}
use Rattle.otp_reason.specs.declared.name.Name.{Name}
use Rattle.otp_suggest.specs.Remedies.{IsBorneWith, IsRemedy}
use Rattle.otp_suggest.specs.declared.remedy.Remedy.TheVariants.{Least}

pub least_at : (tree : Tree) (at : ℕ) (id : Name) (count place today short long : ℕ) → short < long → long - short ≤ 1 → today ≤ short
    → IsBorneWith tree at id count place short Falls → IsBorneWith tree at id count place long Lasts
    → IsRemedy tree at id count place today (Least long)
unfolding IsRemedy
least_at tree at id count place today short long less next above falls lasts =
    let next_is : short + 1 ≡ long = omega (arith, less, next) in
    (short, (above, (sym next_is, (subst (λ (n : ℕ). IsBorneWith tree at id count place n Lasts) (sym next_is) lasts, falls))))
