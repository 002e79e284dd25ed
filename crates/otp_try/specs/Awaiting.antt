-- What a supervisor awaits of its children, a line for each of which it awaits something (own).
use Rattle.std.specs.Prelude.{ℕ, Bool, true, false, List, [], ◌++◌, Option, Some, None, codes}
use Rattle.std.specs.List.{flat_map}
use Rattle.otp_reason.specs.declared.name.Name.{Name}
use Rattle.otp_table.specs.declared.row.Row.{Row}
use Rattle.otp_table.specs.declared.row.RowState.{RowState}
use Rattle.otp_table.specs.declared.row.RowState.TheVariants.{Undefined, Starting, Up, Asked, Killed, Restarting}
use Rattle.otp_text.specs.Values.{child_name_text, process_text}
use Rattle.otp_trial.specs.Story.{heading, time_text}

-- until when, if there is a deadline
unfoldable pub until_text : Option ℕ → List ℕ
until_text None = []
until_text (Some time) = codes " until " ++ time_text time

-- a child, whose supervisor has this path, and its process
unfoldable pub process_of_child : List ℕ → Option Name → ℕ → List ℕ
process_of_child path id process = path ++ child_name_text id ++ codes " " ++ process_text process

-- what is awaited of it, and until when
unfoldable pub awaited_line : List ℕ → List ℕ → Option Name → ℕ → Option ℕ → List ℕ
awaited_line what path id process until = what ++ process_of_child path id process ++ until_text until ++ codes "\n"

-- the line of a child in this state, if something is awaited of it: the answer to its start, or its end, for which one that
-- was asked to shut down may have a deadline
unfoldable pub awaited_in : List ℕ → Option Name → RowState → List ℕ
awaited_in path id Undefined = []
awaited_in path id (Starting process _) = awaited_line (codes "awaits the start of ") path id process None
awaited_in path id (Up _) = []
awaited_in path id (Asked process until) = awaited_line (codes "awaits the end of ") path id process until
awaited_in path id (Killed process) = awaited_line (codes "awaits the end of ") path id process None
awaited_in path id (Restarting _) = []

abbrev pub awaited_of : List ℕ → Row → List ℕ
awaited_of path row = awaited_in path row.id row.state

-- the lines of the children of the supervisor with this path, in start order
unfoldable pub children_awaited : List ℕ → List Row → List ℕ
children_awaited path rows = flat_map (awaited_of path) rows

-- says that events wait until then, where some do
unfoldable pub waiting_text : List ℕ → Bool → List ℕ
waiting_text path false = []
waiting_text path true = heading path ++ codes "what came since waits until that is done\n"

-- what the supervisor with this path awaits
unfoldable pub awaited_text : List ℕ → List Row → Bool → List ℕ
awaited_text path rows waits = children_awaited path rows ++ waiting_text path waits
