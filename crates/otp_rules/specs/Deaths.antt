-- A child has ended, with work open or without; or its restart is tried again
-- (Supervisor Behaviour, Child Specification, restart, and Maximum Restart Intensity).
--
-- From an exit to the order that starts the child again: `take_exit` finds the row, `exit_in` goes by its state, `death` asks whether
-- the restart type wants it again (`is_restarted`), `restart` counts the restart, `restart_or_end` asks whether it is one too many
-- (`in_period`), `restart_rows` opens the work: whom it stops and starts (`stop_list`, `restart_list` in Restarts). Then `advance`
-- (Work) goes on: `stop_each` (Stops) tells the children to stop, in reverse order, and `start` (Starts) starts the next.
use Rattle.std.specs.Prelude.{ℕ, ◌++◌, ◌∷◌, Some, [], drop, if◌then◌else◌, length, nat_lt, slice_range, take}
use Rattle.otp_table.specs.declared.row.Row.{Row}
use Rattle.otp_table.specs.declared.row.RowState.{RowState}
use Rattle.otp_table.specs.declared.row.RowState.TheVariants.{Asked, Killed, Starting, Undefined, Up}
use Rattle.otp_table.specs.Rows.{awaits_retry, calm_rows, row_has}
use Rattle.otp_rules.specs.declared.work.Sequel.TheVariants as sequel
use Rattle.otp_rules.specs.State.{Outcome, is_busy, put_last, with_rows, with_stamps, with_work}
use Rattle.otp_rules.specs.Places.{at_number, at_row, end_row, set_row}
use Rattle.otp_reason.specs.declared.reason.Reason.{Reason}
use Rattle.otp_reason.specs.declared.note.Note.TheVariants as note
use Rattle.otp_window.specs.Period.{in_period}
use Rattle.otp_rules.specs.declared.ending.Ending.TheVariants.{Intensity, Significant}
use Rattle.otp_rules.specs.declared.event.Item.TheVariants as item
use Rattle.otp_rules.specs.declared.event.Waiting.TheVariants as waiting
use Rattle.otp_rules.specs.Restarts.{affected_from, affected_to, ends_by_significance, is_restarted, restart_list, stop_list}
use Rattle.otp_rules.specs.Stops.{terminate}

-- the children from one place to another are to be stopped and started again; the one at place keeps the number k
unfoldable pub restart_rows : ℕ → ℕ → ℕ → ℕ → Outcome → Outcome
restart_rows from to place k o =
    with_rows (take from o.state.rows ++ calm_rows (slice_range o.state.rows from to) ++ drop to o.state.rows)
    (with_work
    (stop_list (slice_range o.state.rows from to))
    (restart_list from to place k o.state.rows)
    (Some sequel.Nothing) o)

-- one restart too many within the period ends the supervisor
unfoldable pub restart_or_end : ℕ → ℕ → Outcome → Outcome
restart_or_end place k o =
    if nat_lt o.state.flags.intensity (in_period o.state.flags.period o.state.stamps o.state.last)
    then terminate Intensity o
    else restart_rows (affected_from o.state.flags.strategy place) (affected_to o.state.flags.strategy place (length o.state.rows)) place k o

-- the child at the place, which has no process, is restarted; the restart counts once, at the event's stamp
unfoldable pub restart : ℕ → ℕ → Row → Outcome → Outcome
restart k place row o =
    restart_or_end place k (with_stamps (o.state.stamps ++ o.state.last ∷ []) (set_row place row Undefined o))

-- the child, whose row was this, has ended for good
unfoldable pub after_end : ℕ → Row → Outcome → Outcome
after_end p row o =
    if ends_by_significance o.state.flags.auto_shutdown row o.state.rows then terminate (Significant p) o else o

-- the child's process p ended by itself, with no work open
unfoldable pub death : ℕ → Reason → ℕ → Row → Outcome → Outcome
death p r place row o =
    if is_restarted row.spec.restart r then restart p place row o
    else after_end p row (end_row place row o)

-- the end of process p, by the state of its row: one that was told to stop has ended; one that no work awaits
-- waits while work is open
unfoldable pub exit_in : ℕ → Reason → ℕ → Row → RowState → Outcome → Outcome
exit_in p r place row (Starting _ _) o = put_last (waiting.Item (item.Note (note.Exit p r))) o
exit_in p r place row (Up _) o =
    if is_busy o then put_last (waiting.Item (item.Note (note.Exit p r))) o else death p r place row o
exit_in p r place row (Asked _ _) o = end_row place row o
exit_in p r place row (Killed _) o = end_row place row o
exit_in p r place row _ o = o

-- the note Exit of process p
unfoldable pub take_exit : ℕ → Reason → Outcome → Outcome
take_exit p r o = at_number p (λ place row. exit_in p r place row row.state) o

-- the next try of a restart that failed; nothing where the child no longer waits for it (own)
unfoldable pub retry : ℕ → Outcome → Outcome
retry k o = at_row (row_has (awaits_retry k)) o (restart k) o
