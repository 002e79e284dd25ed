use Rattle.std.proofs.Common.{◌≡◌, ◌++◌, None, drop}
use Rattle.otp_text.specs.Picture.{child_cells}
use Rattle.otp_text.proofs.timeline.picture.write_child_cells.Given as goal

abbrev pub invariant-loop-moment : goal.invariant-loop-moment
invariant-loop-moment l =
    l.out.items ++ child_cells l.look l.id l.before (drop l.moment-index l.moments) ≡ l.fn.out.items ++ child_cells l.look l.id None l.moments
