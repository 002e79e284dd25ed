use Rattle.std.proofs.Common.{◌-◌}
use Rattle.otp_costs.specs.Costs.{AreBounds}
use Rattle.otp_costs.proofs.limits.steady.search.Given as goal

abbrev pub invariant-halving : goal.invariant-halving
invariant-halving l = AreBounds l.clock l.supervisor.flags l.supervisor.specs l.id l.bounds

abbrev pub decreases-halving : goal.decreases-halving
decreases-halving l = l.bounds.long - l.bounds.short
