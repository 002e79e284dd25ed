use Rattle.std.proofs.Common.{◌≡◌, ◌++◌, drop}
use Rattle.std.specs.List.{flat_map}
use Rattle.otp_pages.specs.Costs.{row_html}
use Rattle.otp_pages.proofs.row.put_rows.Given as goal

abbrev pub invariant-loop-row : goal.invariant-loop-row
invariant-loop-row l = l.out.items ++ flat_map row_html (drop l.row-index l.rows) ≡ l.fn.out.items ++ flat_map row_html l.rows
