use Rattle.std.proofs.Common.{◌≡◌, drop}
use Rattle.otp_try_pages.specs.Cells.{greatest_of}
use Rattle.otp_try_pages.proofs.cells.greatest_of.Given as goal

abbrev pub invariant-loop-mark : goal.invariant-loop-mark
invariant-loop-mark l = greatest_of l.most (drop l.mark-index l.marks) ≡ greatest_of l.fn.most l.marks
