use Rattle.std.proofs.Common.{length}
use Rattle.otp_shutdown.proofs.told.+sum_from.Given as goal

abbrev pub decreases-sum_from : goal.decreases-sum_from
decreases-sum_from l = length l.stops.now
