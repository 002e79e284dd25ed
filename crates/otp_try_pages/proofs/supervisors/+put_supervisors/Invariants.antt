use Rattle.std.specs.Prelude.{length}
use Rattle.otp_try_pages.proofs.supervisors.+put_supervisors.Given as goal

abbrev pub decreases-put_supervisors : goal.decreases-put_supervisors
decreases-put_supervisors l = length l.seats.now
