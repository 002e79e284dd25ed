-- What a tree awaits whose run isn't finished, in words (own).
use Rattle.std.specs.Prelude.{◌≡◌, ℕ, ◌==◌, Bool, true, false, List, [], ◌∷◌, ◌++◌, Option, Some, None, codes, decimal, if◌then◌else◌}
use Rattle.otp_core.specs.View.{state_of}
use Rattle.otp_file.specs.Trees.{Tree}
use Rattle.otp_reason.specs.declared.name.Name.{Name}
use Rattle.otp_reason.specs.Names.{name_bytes}
use Rattle.otp_table.specs.declared.row.Row.{Row}
use Rattle.otp_table.specs.declared.row.RowState.{RowState}
use Rattle.otp_table.specs.declared.row.RowState.TheVariants as row
use Rattle.otp_close.specs.declared.report.report.TableReport.{TableReport}
use Rattle.otp_trial.specs.Played.{IsPlanted, Seated}
use Rattle.otp_command_run.specs.Lives.{count_text}
use Rattle.otp_command_run.specs.declared.outcome.awaited.Limit.{Limit}
use Rattle.otp_command_run.specs.declared.outcome.awaited.Limit.TheVariants.{Turns, Grace}

-- a child is awaited that was ordered to start or to end, and hasn't
unfoldable pub is_awaited : RowState → Bool
is_awaited (row.Starting process kept) = true
is_awaited (row.Asked process deadline) = true
is_awaited (row.Killed process) = true
is_awaited _ = false

unfoldable pub awaited_if : Bool → Row → Option Row → Option Row
awaited_if true first other = Some first
awaited_if false first other = other

-- the first child that a supervisor awaits
unfoldable pub awaited_in : List Row → Option Row
awaited_in [] = None
awaited_in (first ∷ others) = awaited_if (is_awaited first.state) first (awaited_in others)

-- the child, with what stands in front of its id
unfoldable pub wait_at : List ℕ → Option Row → Option (List ℕ × Row)
wait_at path None = None
wait_at path (Some first) = Some (path, first)

unfoldable pub last_of : Option (List ℕ × Row) → Option (List ℕ × Row) → Option (List ℕ × Row)
last_of first None = first
last_of first (Some last) = Some last

-- what the last supervisor that waits, by their numbers, awaits first: none that it waits for waits itself
unfoldable pub last_wait : List Seated → List TableReport → Option (List ℕ × Row)
last_wait [] tables = None
last_wait (seat ∷ seats) [] = None
last_wait (seat ∷ seats) (report ∷ tables) = last_of (wait_at seat.path (awaited_in (state_of report.core).rows)) (last_wait seats tables)

-- a dynamic child has no id
unfoldable pub id_text : Option Name → List ℕ
id_text None = codes "-"
id_text (Some id) = name_bytes id

-- what is awaited of a process
unfoldable pub process_text : List ℕ → List ℕ → Row → ℕ → List ℕ
process_text what path child process = what ++ path ++ id_text child.id ++ codes " #" ++ decimal process

-- what is awaited of a child
unfoldable pub state_text : RowState → List ℕ → Row → List ℕ
state_text (row.Starting process kept) path child = process_text (codes "the start of ") path child process
state_text (row.Asked process deadline) path child = process_text (codes "the end of ") path child process
state_text (row.Killed process) path child = process_text (codes "the end of ") path child process
state_text _ path child = codes "a turn of the root"

unfoldable pub wait_text : Option (List ℕ × Row) → List ℕ
wait_text None = []
wait_text (Some wait) = codes ", and the tree awaits " ++ state_text wait.1.state wait.0 wait.1

-- why a tree is left before it has ended
unfoldable pub unfinished : Limit → List ℕ
unfinished Turns = codes "not finished, since the turns ran out: "
unfinished Grace = codes "not finished, since its stop took too long: "

-- how many processes live in a tree that is left so
unfoldable pub living_text : Limit → ℕ → List ℕ
living_text limit live = unfinished limit ++ count_text live (codes " process lives") (codes " processes live")

-- what there is to do
unfoldable pub advice : Limit → List ℕ
advice Turns = codes "; --turns takes a greater number\n"
advice Grace = codes "; --grace takes a longer time\n"

-- one sentence, a line: how many processes live in a tree that is left, and for what it waits
unfoldable pub awaited_text : Limit → ℕ → Option (List ℕ × Row) → List ℕ
awaited_text limit live wait = living_text limit live ++ wait_text wait ++ advice limit

-- the sentence was put behind a text
abbrev pub TellsAwaited : Limit → Tree → List TableReport → ℕ → List ℕ → List ℕ → Type 0
TellsAwaited limit tree tables live old new = (seats : List Seated) × (IsPlanted true tree seats × (new ≡ old ++ awaited_text limit live (last_wait seats tables)))
