-- The edge, where no other step is left between one that survives and one that doesn't.
use Rattle.std.specs.Prelude.{◌≡◌, ℕ, ◌+◌, ◌-◌, ◌<◌, ◌≤◌, List}
use Rattle.std.proofs.Common.{ap, arith, subst, sym}
use Rattle.otp_reason.specs.declared.name.Name.{Name}
use Rattle.otp_spec.specs.declared.child.ChildSpec.{ChildSpec}
use Rattle.otp_spec.specs.declared.flags.SupFlags.{SupFlags}
use Rattle.otp_trial.specs.declared.clock.Clock.{Clock}
use Rattle.otp_costs.specs.declared.limits.steady.Verdict.TheVariants.{Falls, Lasts}
use Rattle.otp_suggest.specs.Edges.{IsEdge, IsJudgedAt, value_at}
use Rattle.otp_suggest.specs.declared.course.Course.{Course}
use Rattle.otp_suggest.specs.declared.dial.Dial.{Dial}
use Rattle.otp_suggest.specs.declared.edge.Edge.TheVariants.{At}

pub edge_at : (dial : Dial) (clock : Clock) (flags : SupFlags) (specs : List ChildSpec) (id : Name) (course : Course) (short long : ℕ) → short < long → long - short ≤ 1
    → IsJudgedAt dial clock flags specs id course short Falls → IsJudgedAt dial clock flags specs id course long Lasts
    → IsEdge dial clock flags specs id course (At (value_at dial long))
unfolding IsEdge
edge_at dial clock flags specs id course short long less next falls lasts =
    let next_is : short + 1 ≡ long = omega (arith, less, next) in
    (short, (ap (λ (n : ℕ). value_at dial n) (sym next_is), (subst (λ (n : ℕ). IsJudgedAt dial clock flags specs id course n Lasts) (sym next_is) lasts, falls)))
