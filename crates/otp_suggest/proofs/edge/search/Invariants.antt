use Rattle.std.proofs.Common.{◌-◌}
use Rattle.otp_suggest.specs.Edges.{AreBounds}
use Rattle.otp_suggest.proofs.edge.search.Given as goal

abbrev pub invariant-halving : goal.invariant-halving
invariant-halving l = AreBounds l.dial l.clock l.supervisor.flags l.supervisor.specs l.id l.course l.bounds

abbrev pub decreases-halving : goal.decreases-halving
decreases-halving l = l.bounds.long - l.bounds.short
