use Rattle.std.proofs.Common.{length}
use Rattle.otp_costs.proofs.limits.known.+copy_for.Given as goal

abbrev pub decreases-copy_for : goal.decreases-copy_for
decreases-copy_for l = length l.costs.now
