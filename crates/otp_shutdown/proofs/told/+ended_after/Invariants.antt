use Rattle.std.proofs.Common.{length}
use Rattle.otp_shutdown.proofs.told.+ended_after.Given as goal

abbrev pub decreases-ended_after : goal.decreases-ended_after
decreases-ended_after l = length l.stops.now
