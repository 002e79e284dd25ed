use Rattle.std.proofs.Common.{◌≡◌, ◌++◌, drop}
use Rattle.std.specs.List.{flat_map}
use Rattle.otp_try.specs.Awaiting.{awaited_of}
use Rattle.otp_try.proofs.remarks.awaited.write_children.Given as goal

abbrev pub invariant-loop-row : goal.invariant-loop-row
invariant-loop-row l = l.out.items ++ flat_map (awaited_of l.path) (drop l.row-index l.rows) ≡ l.fn.out.items ++ flat_map (awaited_of l.path) l.rows
