use Rattle.std.proofs.Common.{◌≡◌, ◌++◌, take, drop, map}
use Rattle.otp_table.specs.Marks.{moved}
use Rattle.otp_table.proofs.marks.shift_places.Given as goal

abbrev pub invariant-loop-mark : goal.invariant-loop-mark
invariant-loop-mark l = take l.mark-index l.marks ++ map (moved l.place) (drop l.mark-index l.marks) ≡ map (moved l.place) l.fn.marks
