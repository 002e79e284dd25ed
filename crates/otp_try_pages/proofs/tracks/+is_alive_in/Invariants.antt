use Rattle.std.specs.Prelude.{length}
use Rattle.otp_try_pages.proofs.tracks.+is_alive_in.Given as goal

abbrev pub decreases-is_alive_in : goal.decreases-is_alive_in
decreases-is_alive_in l = length l.seats.now
