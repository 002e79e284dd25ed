use Rattle.std.proofs.Common.{◌≡◌, ◌++◌, drop}
use Rattle.std.specs.List.{flat_map}
use Rattle.otp_text.specs.Picture.{added_cell}
use Rattle.otp_text.proofs.timeline.picture.write_added_cells.Given as goal

abbrev pub invariant-loop-moment : goal.invariant-loop-moment
invariant-loop-moment l = l.out.items ++ flat_map (added_cell l.look) (drop l.moment-index l.moments) ≡ l.fn.out.items ++ flat_map (added_cell l.look) l.moments
