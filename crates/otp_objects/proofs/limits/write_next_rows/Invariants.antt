use Rattle.std.proofs.Common.{◌≡◌, ◌++◌, drop}
use Rattle.std.specs.List.{flat_map}
use Rattle.otp_objects.specs.Limits.{next_row}
use Rattle.otp_objects.proofs.limits.write_next_rows.Given as goal

abbrev pub invariant-loop-row : goal.invariant-loop-row
invariant-loop-row l = l.out.items ++ flat_map next_row (drop l.row-index l.rows) ≡ l.fn.out.items ++ flat_map next_row l.rows
