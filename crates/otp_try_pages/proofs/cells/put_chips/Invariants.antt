use Rattle.std.proofs.Common.{◌≡◌, ◌++◌, drop}
use Rattle.std.specs.List.{flat_map}
use Rattle.otp_try_pages.specs.Cells.{chip_if}
use Rattle.otp_try_pages.proofs.cells.put_chips.Given as goal

abbrev pub invariant-loop-mark : goal.invariant-loop-mark
invariant-loop-mark l = l.out.items ++ flat_map (chip_if l.last) (drop l.mark-index l.marks) ≡ l.fn.out.items ++ flat_map (chip_if l.last) l.marks
