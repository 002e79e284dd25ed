use Rattle.std.proofs.Common.{◌≡◌, drop}
use Rattle.otp_try_pages.specs.Cells.{greatest_in}
use Rattle.otp_try_pages.proofs.cells.greatest_in.Given as goal

abbrev pub invariant-loop-standing : goal.invariant-loop-standing
invariant-loop-standing l = greatest_in l.most (drop l.standing-index l.standings) ≡ greatest_in l.fn.most l.standings
