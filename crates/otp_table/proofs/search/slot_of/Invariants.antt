use Rattle.std.proofs.Common.{◌≡◌, drop}
use Rattle.otp_table.specs.Rows.{slot_of}
use Rattle.otp_table.proofs.search.slot_of.Given as goal

abbrev pub invariant-loop-row : goal.invariant-loop-row
invariant-loop-row l = slot_of l.number (drop l.row-index l.rows) ≡ slot_of l.number l.fn.rows
