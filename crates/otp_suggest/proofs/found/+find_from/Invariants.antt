use Rattle.std.proofs.Common.{length}
use Rattle.otp_suggest.proofs.found.+find_from.Given as goal

abbrev pub decreases-find_from : goal.decreases-find_from
decreases-find_from l = length l.seats.now
