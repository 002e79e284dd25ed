use Rattle.std.proofs.Common.{length}
use Rattle.otp_suggest.proofs.lever.+find_levers.Given as goal

abbrev pub decreases-find_levers : goal.decreases-find_levers
decreases-find_levers l = length l.seats.now
