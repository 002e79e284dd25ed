use Rattle.otp_costs.specs.Falls.{StandsAfter}
use Rattle.otp_costs.proofs.limits.fall.crash_often.Given as goal

abbrev pub invariant-loop-count : goal.invariant-loop-count
invariant-loop-count l = StandsAfter l.place l.id l.count l.fn.trial l.trial
