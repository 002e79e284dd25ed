-- What which_children and count_children say (supervisor, which_children/1 and count_children/1).
use Rattle.std.specs.Prelude.{ℕ, ◌+◌, List, [], ◌∷◌, map, length, count_by, if◌then◌else◌}
use Rattle.otp_table.specs.declared.row.Row.{Row}
use Rattle.otp_table.specs.declared.row.RowState.{RowState}
use Rattle.otp_table.specs.declared.row.RowState.TheVariants.{Undefined, Starting, Up, Asked, Killed, Restarting}
use Rattle.otp_table.specs.Rows.{is_active, is_supervisor, is_worker, row_has}
use Rattle.otp_rules.specs.declared.call.Answered.{Answered}
use Rattle.otp_rules.specs.declared.call.ChildLine.{ChildLine}
use Rattle.otp_rules.specs.declared.call.ChildProcess.{ChildProcess}
use Rattle.otp_rules.specs.declared.call.ChildProcess.TheVariants as process
use Rattle.otp_rules.specs.declared.call.CountsNow.{CountsNow}
use Rattle.otp_rules.specs.declared.call.Reply.{Reply}
use Rattle.otp_rules.specs.declared.call.Reply.TheVariants as reply
use Rattle.otp_spec.specs.Flags.{is_simple}
use Rattle.otp_rules.specs.State.{State}

abbrev pub process_of : RowState → ChildProcess
process_of Undefined = process.Undefined
process_of (Starting p _) = process.Number p
process_of (Up p) = process.Number p
process_of (Asked p _) = process.Number p
process_of (Killed p) = process.Number p
process_of (Restarting _) = process.Restarting

abbrev pub line_of : Row → ChildLine
line_of row = record { id = row.id; process = process_of row.state; kind = row.spec.kind; modules = row.spec.modules }

-- a line for each child in start order (own: OTP lists them in reverse)
abbrev pub which_of : List Row → List ChildLine
which_of rows = map line_of rows

-- A child is active that has a process that was started and hasn't ended (own: OTP asks whether the process is alive).
-- It counts by its type whether it is alive or not.
abbrev pub counts_of : State → CountsNow
counts_of s =
    record {
      specs = if is_simple s.flags.strategy then 1 else length s.rows;
      active = count_by (row_has is_active) s.rows;
      supervisors = count_by is_supervisor s.rows;
      workers = count_by is_worker s.rows;
    }

-- how many lines the answer has, where it is a list of children (own)
abbrev pub lines_in : Reply → ℕ
lines_in (reply.Which lines) = length lines
lines_in _ = 0

-- how many lines all these answers have: a list that was told twice counts twice (own)
abbrev pub lines_told : List Answered → ℕ
lines_told [] = 0
lines_told (a ∷ later) = lines_in a.reply + lines_told later
