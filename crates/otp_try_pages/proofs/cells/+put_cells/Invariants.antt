use Rattle.std.specs.Prelude.{length}
use Rattle.otp_try_pages.proofs.cells.+put_cells.Given as goal

abbrev pub decreases-put_cells : goal.decreases-put_cells
decreases-put_cells l = length l.seats.now
