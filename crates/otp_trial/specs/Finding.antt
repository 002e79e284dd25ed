-- The child that a script means (own).
use Rattle.std.specs.Prelude.{ℕ, List, Option, Some, None, option_map, position, slice_get}
use Rattle.otp_reason.specs.declared.name.Name.{Name}
use Rattle.otp_rules.specs.declared.call.Call.TheVariants as call
use Rattle.otp_table.specs.declared.row.Row.{Row}
use Rattle.otp_table.specs.declared.row.RowState.{RowState}
use Rattle.otp_table.specs.declared.row.RowState.TheVariants.{Undefined, Starting, Up, Asked, Killed, Restarting}
use Rattle.otp_table.specs.Rows.{has_id, has_process, row_has}
use Rattle.otp_script.specs.declared.step.Action.{Action}
use Rattle.otp_script.specs.declared.step.Action.TheVariants as action
use Rattle.otp_script.specs.declared.step.Child.{Child}
use Rattle.otp_script.specs.declared.step.Child.TheVariants as child
use Rattle.otp_trial.specs.declared.processes.finding.Found.{Found}
use Rattle.otp_trial.specs.declared.processes.finding.Found.TheVariants as found

-- the process that a child with this state has
unfoldable pub found_in_state : RowState → Found
found_in_state Undefined = found.NoProcess
found_in_state (Starting p _) = found.Process p
found_in_state (Up p) = found.Process p
found_in_state (Asked p _) = found.Process p
found_in_state (Killed p) = found.Process p
found_in_state (Restarting _) = found.NoProcess

unfoldable pub found_in_row : Option Row → Found
found_in_row None = found.NoChild
found_in_row (Some row) = found_in_state row.state

unfoldable pub found_at : List Row → Option ℕ → Found
found_at rows None = found.NoChild
found_at rows (Some place) = found_in_row (slice_get rows place)

-- the process of the child that a script means: the first with that id, or the one with that process number
unfoldable pub found_for : Child → List Row → Found
found_for (child.Named id) rows = found_at rows (position (has_id id) rows)
found_for (child.Numbered p) rows = found_at rows (position (row_has (has_process p)) rows)

-- the child that a line names and that has to be there for it, by its id: that of a call, or one of whose starts it is said how
-- they go
unfoldable pub child_named : Action → Option Name
child_named (action.Call (call.RestartChild id)) = Some id
child_named (action.Call (call.DeleteChild id)) = Some id
child_named (action.Call (call.GetChildspec id)) = Some id
child_named (action.Call (call.TerminateChild id)) = Some id
child_named (action.Start id _) = Some id
child_named (action.Init id _) = Some id
child_named _ = None

-- the state of the child that a script means
unfoldable pub state_at : List Row → Option ℕ → Option RowState
state_at rows None = None
state_at rows (Some place) = option_map (λ row. row.state) (slice_get rows place)

unfoldable pub state_for : Child → List Row → Option RowState
state_for (child.Named id) rows = state_at rows (position (has_id id) rows)
state_for (child.Numbered p) rows = state_at rows (position (row_has (has_process p)) rows)
