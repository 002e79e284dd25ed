-- The slot of the row that has a process.
use Rattle.std.specs.Prelude.{ℕ, List, Option, Some, None, position, slice_get}
use Rattle.otp_table.specs.declared.row.Row.{Row}
use Rattle.otp_table.specs.Rows.{row_has, has_process}

abbrev pub slot_in : Option Row → ℕ
slot_in None = 0
slot_in (Some row) = row.slot

abbrev pub slot_at : List Row → Option ℕ → ℕ
slot_at rows None = 0
slot_at rows (Some place) = slot_in (slice_get rows place)

-- the slot of the row that has this process; 0 where none has
abbrev pub slot_of : List Row → ℕ → ℕ
slot_of rows number = slot_at rows (position (row_has (has_process number)) rows)
