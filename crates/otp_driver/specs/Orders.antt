-- What an order for the outside says (own).
use Rattle.std.specs.Prelude.{ℕ, List, Option, Some, None}
use Rattle.otp_reason.specs.declared.name.Name.{Name}
use Rattle.otp_rules.specs.declared.event.Effect.{Effect}
use Rattle.otp_rules.specs.declared.event.Effect.TheVariants as effect
use Rattle.otp_table.specs.declared.row.Row.{Row}
use Rattle.otp_table.specs.declared.row.RowState.{RowState}
use Rattle.otp_table.specs.declared.row.RowState.TheVariants.{Asked}
use Rattle.otp_driver.specs.declared.order.Task.{Task}
use Rattle.otp_driver.specs.declared.order.What.{What}
use Rattle.otp_driver.specs.declared.order.What.TheVariants as what
use Rattle.otp_driver.specs.Members.{row_at}
use Rattle.otp_driver.specs.Routes.{ending_in}

abbrev pub start_in : Option Row → Option Name
start_in None = None
start_in (Some row) = Some row.spec.start

abbrev pub deadline_of : RowState → Option ℕ
deadline_of (Asked _ deadline) = deadline
deadline_of _ = None

-- until when it may take to shut down
abbrev pub deadline_in : Option Row → Option ℕ
deadline_in None = None
deadline_in (Some row) = deadline_of row.state

-- the process of a child, with the child's start word
abbrev pub task_of : List Row → Option Name → ℕ → Task
task_of rows id number = record { number = number; id = id; start = start_in (row_at rows number) }

-- what the order says, of a supervisor that has these children
unfoldable pub what_of : List Row → Effect → What
what_of rows (effect.Start id number) = what.Start (task_of rows id number)
what_of rows (effect.Ask id number) = what.Ask (task_of rows id number) (deadline_in (row_at rows number))
what_of rows (effect.Kill id number) = what.Kill (task_of rows id number)
what_of rows (effect.Reply call) = what.Reply call
what_of rows effect.Ready = what.Ready
what_of rows (effect.End end) = what.End end.reason (ending_in end.cause)
