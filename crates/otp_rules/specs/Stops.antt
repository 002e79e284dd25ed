-- A child is stopped, and all of them when the supervisor ends (Supervisor Behaviour, Child Specification, shutdown,
-- Supervision Principles, and Stopping).
use Rattle.std.specs.Prelude.{ℕ, ◌+◌, ◌==◌, ◌∷◌, Bool, List, None, Option, Some, [], false, if◌then◌else◌, is_some, position, remove}
use Rattle.otp_reason.specs.declared.name.Name.{Name}
use Rattle.otp_table.specs.declared.row.Row.{Row}
use Rattle.otp_table.specs.declared.row.RowState.{RowState}
use Rattle.otp_table.specs.declared.row.RowState.TheVariants.{Asked, Killed}
use Rattle.otp_table.specs.Rows.{calm_rows}
use Rattle.otp_rules.specs.declared.work.Sequel.TheVariants as sequel
use Rattle.otp_spec.specs.Flags.{is_simple}
use Rattle.otp_rules.specs.State.{Outcome, emit, with_rows, with_waiting, with_work}
use Rattle.otp_rules.specs.Places.{at_number, end_process, set_row}
use Rattle.otp_reason.specs.declared.note.Note.TheVariants as note
use Rattle.otp_rules.specs.declared.event.Item.TheVariants as item
use Rattle.otp_rules.specs.declared.event.Waiting.TheVariants as waiting
use Rattle.otp_rules.specs.Restarts.{running, stop_list}
use Rattle.otp_rules.specs.declared.event.Effect.{Effect}
use Rattle.otp_rules.specs.declared.event.Effect.TheVariants as effect
use Rattle.otp_rules.specs.declared.ending.Ending.{Ending}
use Rattle.otp_rules.specs.declared.event.Waiting.{Waiting}
use Rattle.otp_spec.specs.declared.child.Shutdown.{Shutdown}
use Rattle.otp_spec.specs.declared.child.Shutdown.TheVariants.{BrutalKill, Infinity, Milliseconds}

-- what waits is the end of this process
abbrev pub is_exit : ℕ → Waiting → Bool
is_exit p (waiting.Item (item.Note (note.Exit q _))) = q == p
is_exit p _ = false

-- the items without the one at the place
abbrev pub without : List Waiting → Option ℕ → List Waiting
without items None = items
without items (Some place) = remove items place

-- the state of a child that is told to stop at a time (Supervisor Behaviour, Child Specification, shutdown)
abbrev pub told : ℕ → ℕ → Shutdown → RowState
told now p BrutalKill = Killed p
told now p (Milliseconds m) = Asked p (Some (now + m))
told now p Infinity = Asked p None

abbrev pub stop_order : Option Name → ℕ → Shutdown → Effect
stop_order id p BrutalKill = effect.Kill id p
stop_order id p (Milliseconds _) = effect.Ask id p
stop_order id p Infinity = effect.Ask id p

-- the child at the place is told to stop
unfoldable pub tell_row : ℕ → ℕ → Row → Outcome → Outcome
tell_row p place row o = emit (stop_order row.id p row.spec.shutdown) (set_row place row (told o.state.last p row.spec.shutdown) o)

unfoldable pub tell : ℕ → Outcome → Outcome
tell p o = at_number p (tell_row p) o

-- the process ended before it was told to stop: its end, which waits at the place, is used
unfoldable pub use_exit : ℕ → Option ℕ → Outcome → Outcome
use_exit p place o = end_process p (with_waiting (without o.state.waiting place) o)

-- these children end at once if their ends wait, and are told to stop else
unfoldable pub stop_each : List ℕ → Outcome → Outcome
stop_each [] o = o
stop_each (p ∷ ps) o =
    if is_some (position (is_exit p) o.state.waiting)
    then stop_each ps (use_exit p (position (is_exit p) o.state.waiting) o)
    else stop_each ps (tell p o)

-- the rows of a supervisor that ends: no retry waits any more
abbrev pub calm_all : Outcome → Outcome
calm_all o = with_rows (calm_rows o.state.rows) o

-- all children are to be stopped one after another, and then the supervisor ends
unfoldable pub terminate_ordered : Ending → Outcome → Outcome
terminate_ordered ending o = calm_all (with_work (stop_list o.state.rows) [] (Some (sequel.End ending)) o)

-- all dynamic children are told to stop together, and when all have ended the supervisor ends
-- (supervisor, Supervision Principles: children of simple_one_for_one are terminated asynchronously, in an order
-- that is not defined; start order is own)
unfoldable pub terminate_together : Ending → Outcome → Outcome
terminate_together ending o = stop_each (running o.state.rows) (calm_all (with_work [] [] (Some (sequel.End ending)) o))

unfoldable pub terminate : Ending → Outcome → Outcome
terminate ending o =
    if is_simple o.state.flags.strategy then terminate_together ending o else terminate_ordered ending o
