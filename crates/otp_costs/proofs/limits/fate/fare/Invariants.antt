use Rattle.otp_costs.specs.Fates.{RunsAfter}
use Rattle.otp_costs.proofs.limits.fate.fare.Given as goal

abbrev pub invariant-loop-count : goal.invariant-loop-count
invariant-loop-count l = RunsAfter l.clock l.id l.gap l.count l.fn.stage l.stage
