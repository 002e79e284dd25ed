-- Changes of the state at one child's row.
use Rattle.std.specs.Prelude.{ℕ, Bool, Option, Some, None, slice_get, slice_set, remove, position, is_none, ◌||◌, if◌then◌else◌}
use Rattle.otp_spec.specs.declared.child.Restart.{Restart}
use Rattle.otp_spec.specs.declared.child.Restart.TheVariants.{Permanent, Temporary, Transient}
use Rattle.std.specs.Prelude.{true, false}
use Rattle.otp_table.specs.declared.row.Row.{Row}
use Rattle.otp_table.specs.declared.row.RowState.{RowState}
use Rattle.otp_table.specs.declared.row.RowState.TheVariants.{Undefined}
use Rattle.otp_table.specs.Rows.{row_has, has_process, with_state}
use Rattle.otp_rules.specs.State.{Outcome, with_rows}

unfoldable pub at_place : (ℕ → Row → Outcome → Outcome) → ℕ → Option Row → Outcome → Outcome
at_place f place None o = o
at_place f place (Some row) o = f place row o

unfoldable pub at_found : Outcome → (ℕ → Row → Outcome → Outcome) → Option ℕ → Outcome → Outcome
at_found missing f None o = missing
at_found missing f (Some place) o = at_place f place (slice_get o.state.rows place) o

-- f at the first row that passes the test; what stands where none does comes first
unfoldable pub at_row : (Row → Bool) → Outcome → (ℕ → Row → Outcome → Outcome) → Outcome → Outcome
at_row test missing f o = at_found missing f (position test o.state.rows) o

-- f at the row whose process has this number; nothing changes where there is none
unfoldable pub at_number : ℕ → (ℕ → Row → Outcome → Outcome) → Outcome → Outcome
at_number p f o = at_row (row_has (has_process p)) o f o

abbrev pub is_temporary : Restart → Bool
is_temporary Permanent = false
is_temporary Transient = false
is_temporary Temporary = true

-- the row is removed where it would become undefined: of a temporary child (supervisor, terminate_child/2: its
-- specification is deleted as soon as its process terminates), and of a dynamic one (own)
abbrev pub is_removed : Row → Bool
is_removed row = is_temporary row.spec.restart || is_none row.id

-- the row has this state from now on
abbrev pub set_row : ℕ → Row → RowState → Outcome → Outcome
set_row place row state o = with_rows (slice_set o.state.rows place (with_state state row)) o

-- the row has no process from now on
unfoldable pub end_row : ℕ → Row → Outcome → Outcome
end_row place row o =
    if is_removed row then with_rows (remove o.state.rows place) o
    else set_row place row Undefined o

-- the process with this number has ended
unfoldable pub end_process : ℕ → Outcome → Outcome
end_process p o = at_number p end_row o
