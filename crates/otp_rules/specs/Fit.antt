-- What holds between two events of every lawful history: a state that has it is as good a base as the empty one.
use Rattle.std.specs.Prelude.{◌≡◌, ◌⊎◌, ℕ, ◌+◌, ◌==◌, ◌≤◌, ◌<◌, ◌++◌, ◌&&◌, not, Bool, true, false, List, [], ◌∷◌, Option, None, Some, All, map, reverse, is_some, is_none, nat_lt, count_by}
use Rattle.std.specs.Option.{option_eq}
use Rattle.std.specs.Ordering.{on}
use Rattle.std.specs.Str.{bytes_eq}
use Rattle.otp_reason.specs.Names.{name_bytes}
use Rattle.otp_spec.specs.declared.child.ChildSpec.{ChildSpec}
use Rattle.otp_spec.specs.declared.flags.SupFlags.{SupFlags}
use Rattle.otp_table.specs.declared.row.Row.{Row}
use Rattle.otp_table.specs.declared.row.RowState.{RowState}
use Rattle.otp_table.specs.declared.row.RowState.TheVariants.{Undefined, Starting, Up, Asked, Killed, Restarting}
use Rattle.otp_table.specs.Rows.{has_process, is_awaited, row_has}
use Rattle.otp_rules.specs.declared.event.Event.{Event}
use Rattle.otp_rules.specs.declared.work.Sequel.{Sequel}
use Rattle.otp_rules.specs.declared.work.Sequel.TheVariants as sequel
use Rattle.otp_rules.specs.declared.work.Due.{Due}
use Rattle.otp_spec.specs.Flags.{is_simple}
use Rattle.otp_rules.specs.State.{State, is_over}
use Rattle.otp_rules.specs.Places.{is_removed}
use Rattle.otp_rules.specs.Stops.{is_exit}
use Rattle.otp_rules.specs.Run.{empty_state, state_after}
use Rattle.otp_rules.specs.Needs.{IsLawfulHistory, numbers_of}
use Rattle.otp_rules.specs.Progress.{Ordered, Progress, no_progress, is_end, ends_together, id_bytes, processes, progress, start_list, IsIn, IsPart}

-- how many rows' states pass the test
abbrev pub rows_in : (RowState → Bool) → List Row → ℕ
rows_in t rows = count_by (row_has t) rows

-- how often the number stands in the list
abbrev pub times : ℕ → List ℕ → ℕ
times q ps = count_by (λ p. p == q) ps

-- the process runs under this number, and nothing is asked of it
abbrev pub runs_as : ℕ → RowState → Bool
runs_as p (Up q) = q == p
runs_as p _ = false

-- the child was told to stop, under this number
abbrev pub is_told : ℕ → RowState → Bool
is_told p (Asked q _) = q == p
is_told p (Killed q) = q == p
is_told p _ = false

-- the answer to the start of this process is awaited
abbrev pub is_starting : ℕ → RowState → Bool
is_starting m (Starting q _) = q == m
is_starting m _ = false

-- how many answers of children may be awaited, by what follows the open work: none where no work is open, one while
-- children are stopped and started one after another, any number while the supervisor ends
abbrev pub IsLimited : Option Sequel → ℕ → Type 0
IsLimited None n = n ≡ 0
IsLimited (Some (sequel.End _)) n = Unit {0}
IsLimited _ n = n ≤ 1

-- each process still to stop is a child's, as often as it is to stop
abbrev pub IsCovered : List ℕ → List Row → Type 0
IsCovered ps rows = (q : ℕ) → times q ps ≤ rows_in (runs_as q) rows

-- the lists of the open work are sound: no more answers are awaited than it may await, the processes that it is to stop
-- run, without work there is nothing to stop or to start, work is open only while the supervisor runs, an end starts
-- nobody, and where dynamic children end together nobody is left to stop
abbrev pub IsSound : State → Type 0
IsSound s =
    IsLimited s.follows (rows_in is_awaited s.rows)
    × IsCovered s.to_stop s.rows
    × (is_some s.follows ≡ false → (s.to_stop ≡ []) × (s.to_start ≡ []))
    × (is_over s.phase ≡ true → is_some s.follows ≡ false)
    × (is_end s.follows ≡ true → s.to_start ≡ [])
    × (ends_together s ≡ true → s.to_stop ≡ [])

-- whether the child in the row can be started once these processes have been stopped: it has no process, or it is told
-- to stop or still to be stopped and stays when it ends
abbrev pub is_free : List ℕ → Bool → RowState → Bool
is_free ps goes Undefined = true
is_free ps goes (Starting _ _) = false
is_free ps goes (Up p) = not goes && nat_lt 0 (times p ps)
is_free ps goes (Asked _ _) = not goes
is_free ps goes (Killed _) = not goes
is_free ps goes (Restarting _) = false

abbrev pub IsFree : List ℕ → Row → Type 0
IsFree ps row = is_free ps (is_removed row) row.state ≡ true

-- the row is the child's that is due
abbrev pub Matches : Due → Row → Type 0
Matches due row = option_eq (on name_bytes bytes_eq) row.id due.id ≡ true

-- the children to start have rows, in their order, that can be started once these processes have been stopped
abbrev pub Fits : List ℕ → List Due → List Row → Type 0
Fits ps [] rows = Unit {0}
Fits ps (due ∷ dues) [] = ⊥
Fits ps (due ∷ dues) (row ∷ rows) = (Matches due row × IsFree ps row × Fits ps dues rows) ⊎ Fits ps (due ∷ dues) rows

-- a dynamic child
abbrev pub nameless : Row → Bool
nameless row = is_none row.id

-- each child has an id, but under simple_one_for_one
abbrev pub IsNamed : State → Type 0
IsNamed s = is_simple s.flags.strategy ≡ false → count_by nameless s.rows ≡ 0

-- each child has the id that it must have, and each that is to be started has its row
abbrev pub IsFitted : State → Type 0
IsFitted s = IsNamed s × Fits s.to_stop s.to_start s.rows

-- each process is the child's in one row at most, and the numbers from m on are no child's
abbrev pub IsDistinct : ℕ → State → Type 0
IsDistinct m s = ((q : ℕ) → rows_in (has_process q) s.rows ≤ 1) × ((q : ℕ) → m ≤ q → rows_in (has_process q) s.rows ≡ 0)

-- each process whose Exit waits has ended
abbrev pub HasWaiting : State → Progress → Type 0
HasWaiting s g = (q : ℕ) → 0 < count_by (is_exit q) s.waiting → IsIn q g.ended

-- the lists of work that has just been opened are those of the children that it is about: their processes, of which
-- none stands later among the rows, in reverse start order; and those that are to be started
abbrev pub IsListed : Progress → Type 0
IsListed g =
    (part : List Row) × IsPart g part
    × (earlier : List ℕ) × (later : List ℕ)
    × (processes g.opened.rows ≡ earlier ++ processes part ++ later)
    × ((q : ℕ) → IsIn q later → IsIn q (processes part) → ⊥)
    × (g.opened.to_stop ≡ reverse (processes part))
    × (map (λ x. id_bytes x.id) g.opened.to_start ≡ map (λ (x : Row). id_bytes x.id) (start_list g.opened.follows part))

-- what was to be stopped is what still is, and before it those that have ended or were told to stop
abbrev pub HasPart : State → Progress → Type 0
HasPart s g = IsListed g × (done : List ℕ) × (g.opened.to_stop ≡ done ++ s.to_stop) × ((q : ℕ) → IsIn q done → IsIn q g.ended ⊎ (0 < rows_in (is_told q) s.rows))

-- dynamic children that end together have no stop list
abbrev pub HasStops : State → Progress → Type 0
HasStops s g = ends_together s ≡ false → HasPart s g

-- while work is open, what has been stopped is in step with the state
abbrev pub Keeps : State → Progress → Type 0
Keeps s g = is_some s.follows ≡ true → HasWaiting s g × HasStops s g

-- the start was answered, or its answer is awaited
abbrev pub IsUnderWay : List Row → Ordered → Type 0
IsUnderWay rows x = (x.answered ≡ true) ⊎ (0 < rows_in (is_starting x.number) rows)

-- what was to be started is what still is, and before it those whose start was ordered
abbrev pub HasStarts : State → Progress → Type 0
HasStarts s g =
    (first : List Due) × (g.opened.to_start ≡ first ++ s.to_start) × (map (λ x. id_bytes x.id) g.ordered ≡ map (λ (x : Due). id_bytes x.id) first) × All (IsUnderWay s.rows) g.ordered

-- while work is open, what has been started is in step with the state
abbrev pub KeepsStarts : State → Progress → Type 0
KeepsStarts s g = is_some s.follows ≡ true → HasStarts s g

-- the state, its open work and its progress are in step
abbrev pub IsInStep : State → Progress → Type 0
IsInStep s g = IsSound s × Keeps s g

-- all that holds between two events of a lawful history whose numbers so far are below m
abbrev pub IsFit : ℕ → State → Progress → Type 0
IsFit m s g = IsInStep s g × IsFitted s × IsDistinct m s × KeepsStarts s g

-- the history is lawful from this state on, and its numbers are at least m
abbrev pub IsLawfulFrom : ℕ → State → List Event → Type 0
IsLawfulFrom m s events = IsLawfulHistory s events × All (λ n. m ≤ n) (numbers_of events)

-- the number after these, which rise, and after those below m
abbrev pub next_number : ℕ → List ℕ → ℕ
next_number m [] = m
next_number m (n ∷ ns) = next_number (n + 1) ns

-- a supervisor that was never opened is fit, and a lawful history keeps it so
abbrev pub StaysFit : Type 0
StaysFit =
    ((flags : SupFlags) (specs : List ChildSpec) → IsFit 0 (empty_state flags specs) (no_progress (empty_state flags specs)))
    × ((m : ℕ) (s : State) (g : Progress) (events : List Event) → IsFit m s g → IsLawfulFrom m s events
    → IsFit (next_number m (numbers_of events)) (state_after s events) (progress s g events))
