-- The shortest interval, where no other is left between one that is survived and one that isn't.
use Rattle.std.specs.Prelude.{◌≡◌, ℕ, ◌+◌, ◌-◌, ◌<◌, ◌≤◌, List}
use Rattle.std.proofs.Common.{arith}
use Rattle.otp_reason.specs.declared.name.Name.{Name}
use Rattle.otp_spec.specs.declared.child.ChildSpec.{ChildSpec}
use Rattle.otp_spec.specs.declared.flags.SupFlags.{SupFlags}
use Rattle.otp_trial.specs.declared.clock.Clock.{Clock}
use Rattle.otp_costs.specs.Costs.{IsJudged, IsSteady}
use Rattle.otp_costs.specs.declared.limits.steady.Steady.TheVariants.{Apart}
use Rattle.otp_costs.specs.declared.limits.steady.Verdict.TheVariants.{Falls, Lasts}

pub apart : (clock : Clock) (flags : SupFlags) (specs : List ChildSpec) (id : Name) (short long : ℕ) → short < long → long - short ≤ 1
    → IsJudged clock flags specs id short Falls → IsJudged clock flags specs id long Lasts → IsSteady clock flags specs id (Apart long)
unfolding IsSteady
apart clock flags specs id short long less next falls lasts =
    let next_is : short + 1 ≡ long = omega (arith, less, next) in (lasts, (short, (next_is, falls)))
