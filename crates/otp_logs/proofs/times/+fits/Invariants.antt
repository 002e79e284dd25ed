use Rattle.std.proofs.Common.{length}
use Rattle.otp_logs.proofs.times.+fits.Given as goal

abbrev pub decreases-fits : goal.decreases-fits
decreases-fits l = length l.text.now
