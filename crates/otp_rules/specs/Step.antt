-- What one event does: the state after it, and the orders.
use Rattle.std.specs.Prelude.{ℕ, ◌+◌, Bool, true, false, List, [], ◌∷◌, ◌++◌, Option, Some, None, map, is_some, unwrap_or, nat_le, max, if◌then◌else◌}
use Rattle.std.specs.List.{filter_map}
use Rattle.otp_reason.specs.declared.note.Note.{Note}
use Rattle.otp_reason.specs.declared.note.Note.TheVariants as note
use Rattle.otp_spec.specs.declared.child.ChildSpec.{ChildSpec}
use Rattle.otp_table.specs.declared.row.Row.{Row}
use Rattle.otp_table.specs.declared.row.RowState.{RowState}
use Rattle.otp_table.specs.declared.row.RowState.TheVariants.{Asked, Killed}
use Rattle.otp_table.specs.Rows.{with_state}
use Rattle.otp_rules.specs.declared.call.Call.{Call}
use Rattle.otp_rules.specs.declared.call.Reply.TheVariants as reply
use Rattle.otp_rules.specs.declared.ending.Ending.TheVariants as ending
use Rattle.otp_rules.specs.declared.event.Effect.{Effect}
use Rattle.otp_rules.specs.declared.event.Effect.TheVariants as effect
use Rattle.otp_rules.specs.declared.event.Event.{Event}
use Rattle.otp_rules.specs.declared.event.Item.{Item}
use Rattle.otp_rules.specs.declared.event.Item.TheVariants as item
use Rattle.otp_rules.specs.declared.event.Kind.{Kind}
use Rattle.otp_rules.specs.declared.event.Kind.TheVariants as kind
use Rattle.otp_rules.specs.declared.event.Waiting.{Waiting}
use Rattle.otp_rules.specs.declared.event.Waiting.TheVariants as waiting
use Rattle.otp_rules.specs.declared.work.Due.{Due}
use Rattle.otp_rules.specs.declared.work.Sequel.TheVariants as sequel
use Rattle.otp_rules.specs.declared.work.Phase.TheVariants.{Open}
use Rattle.otp_spec.specs.Flags.{is_simple}
use Rattle.otp_rules.specs.State.{Outcome, State, answer, is_busy, is_over, put_last, with_rows, with_stamps, with_waiting, with_work, with_phase}
use Rattle.otp_rules.specs.Stops.{terminate}
use Rattle.otp_rules.specs.Work.{advance}
use Rattle.otp_rules.specs.Deaths.{retry, take_exit}
use Rattle.otp_rules.specs.Starts.{take_failed, take_ignored, take_up}
use Rattle.otp_rules.specs.Calls.{new_row, take_call}

unfoldable pub take_note : Note → Outcome → Outcome
take_note (note.Up p) o = take_up p o
take_note (note.Ignored p) o = take_ignored p o
take_note (note.Failed p r) o = take_failed p r o
take_note (note.Exit p r) o = take_exit p r o

-- a call waits while work is open; a supervisor that has ended, or was never opened, answers noproc (own)
unfoldable pub ask : ℕ → Call → Outcome → Outcome
ask c call o =
    if is_over o.state.phase then answer c reply.NoProc o
    else if is_busy o then put_last (waiting.Item (item.Call c call)) o
    else take_call c call o

-- an item of the inbox; a note changes nothing after the end
unfoldable pub take_item : Item → Outcome → Outcome
take_item (item.Note x) o = if is_over o.state.phase then o else take_note x o
take_item (item.Call c call) o = ask c call o

unfoldable pub take_waiting : Waiting → Outcome → Outcome
take_waiting (waiting.Item x) o = take_item x o
take_waiting (waiting.Retry k) o = retry k o

-- the first waiting item is taken
unfoldable pub resume : List Waiting → Outcome → Outcome
resume [] o = o
resume (x ∷ xs) o = take_waiting x (with_waiting xs o)

-- the rows of these children in this order, and in slots from one on (own)
abbrev pub rows_from : ℕ → List ChildSpec → List Row
rows_from slot [] = []
rows_from slot (spec ∷ specs) = new_row slot (Some spec.id) spec ∷ rows_from (slot + 1) specs

abbrev pub due_of : ChildSpec → Due
due_of spec = record { id = Some spec.id; kept = None }

-- the start list of an opening: all children, in their order
abbrev pub opening_list : List ChildSpec → List Due
opening_list specs = map due_of specs

-- the children of a supervisor that opens: none yet under simple_one_for_one
abbrev pub opening_specs : Bool → List ChildSpec → List ChildSpec
opening_specs true specs = []
opening_specs false specs = specs

unfoldable pub open_with : List ChildSpec → ℕ → Outcome → Outcome
open_with specs own o =
    with_work [] (opening_list specs) (Some sequel.Ready)
    (with_rows (rows_from 0 specs) (with_stamps [] (with_phase (Open own) o)))

-- the supervisor opens anew under its own number: all children are to be started, in order
-- (Supervisor Behaviour, Supervision Principles and Starting a Supervisor)
unfoldable pub open_rows : ℕ → Outcome → Outcome
open_rows own o = open_with (opening_specs (is_simple o.state.flags.strategy) o.state.specs) own o

abbrev pub late_by : ℕ → ℕ → Option ℕ → Option ℕ
late_by now p None = None
late_by now p (Some deadline) = if nat_le deadline now then Some p else None

-- the process of a child that was told to shut down, and whose deadline has come
abbrev pub late_number : ℕ → RowState → Option ℕ
late_number now (Asked p deadline) = late_by now p deadline
late_number now _ = None

abbrev pub is_late : ℕ → RowState → Bool
is_late now state = is_some (late_number now state)

abbrev pub killed : Row → Option ℕ → Row
killed row None = row
killed row (Some p) = with_state (Killed p) row

abbrev pub kill_order : Row → Option ℕ → Option Effect
kill_order row None = None
kill_order row (Some p) = Some (effect.Kill row.id p)

-- each child whose deadline has come is killed, in start order (Supervisor Behaviour, Child Specification, shutdown)
unfoldable pub tick : Outcome → Outcome
tick o =
    record {
      state = record o.state { rows = map (λ row. killed row (late_number o.state.last row.state)) o.state.rows };
      orders = o.orders ++ filter_map (λ row. kill_order row (late_number o.state.last row.state)) o.state.rows;
    }

-- f where no work is open and the supervisor runs
abbrev pub if_idle : Outcome → Outcome → Outcome
if_idle done o = if is_busy o then o else if is_over o.state.phase then o else done

-- what the event itself changes: the work that it opens or that goes on has not moved yet
unfoldable pub decide : Kind → Outcome → Outcome
decide (kind.Opened own) o = if is_over o.state.phase then open_rows own o else o
decide (kind.Took x) o = take_item x o
decide kind.Resumed o = if_idle (resume o.state.waiting o) o
decide kind.Ticked o = tick o
decide kind.Stopped o = if_idle (terminate ending.Asked o) o

-- the stamp of an event is its reading, or the last stamp if that is later (own: a clock that falls is held)
abbrev pub stamped : ℕ → State → State
stamped reading s = record s { last = max reading s.last }

-- the event moves a supervisor on, and its orders come after those given before
unfoldable pub step_on : Event → Outcome → Outcome
step_on e o = advance (unwrap_or e.number 0) (decide e.kind (record o { state = stamped e.reading o.state }))

-- what one event does: the state after it, and the orders
unfoldable pub step : State → Event → Outcome
step s e = step_on e (record { state = s; orders = [] })
