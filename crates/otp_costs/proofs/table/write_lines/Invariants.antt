use Rattle.std.proofs.Common.{◌≡◌, ◌++◌, drop}
use Rattle.std.specs.List.{flat_map}
use Rattle.otp_costs.specs.Table.{row_text}
use Rattle.otp_costs.proofs.table.write_lines.Given as goal

abbrev pub invariant-loop-row : goal.invariant-loop-row
invariant-loop-row l =
    l.out.items ++ flat_map (row_text l.is_alone) (drop l.row-index l.rows) ≡ l.fn.out.items ++ flat_map (row_text l.is_alone) l.rows
