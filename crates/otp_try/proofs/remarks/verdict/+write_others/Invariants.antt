use Rattle.std.proofs.Common.{length}
use Rattle.otp_try.proofs.remarks.verdict.+write_others.Given as goal

abbrev pub decreases-write_others : goal.decreases-write_others
decreases-write_others l = length l.seats.now
