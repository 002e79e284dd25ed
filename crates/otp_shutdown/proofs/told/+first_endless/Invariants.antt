use Rattle.std.proofs.Common.{length}
use Rattle.otp_shutdown.proofs.told.+first_endless.Given as goal

abbrev pub decreases-first_endless : goal.decreases-first_endless
decreases-first_endless l = length l.stops.now
