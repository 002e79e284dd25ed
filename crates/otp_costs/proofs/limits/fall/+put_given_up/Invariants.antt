use Rattle.std.proofs.Common.{length}
use Rattle.otp_costs.proofs.limits.fall.+put_given_up.Given as goal

abbrev pub decreases-put_given_up : goal.decreases-put_given_up
decreases-put_given_up l = length l.seats.now
