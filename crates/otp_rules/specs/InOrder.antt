-- What holds between two events of every lawful history beside what is fit: a state that has it is as good a base as the
-- empty one for the laws of a process's life (`Lives`, `Alive`) and of late children (`Late`).
use Rattle.std.specs.Prelude.{◌≡◌, ◌⊎◌, ◌≤◌, ◌<◌, ℕ, Bool, true, false, List, [], Option, Some, is_some}
use Rattle.std.specs.List.{list_any}
use Rattle.otp_spec.specs.declared.child.ChildSpec.{ChildSpec}
use Rattle.otp_spec.specs.declared.flags.SupFlags.{SupFlags}
use Rattle.otp_table.specs.declared.row.Row.{Row}
use Rattle.otp_table.specs.declared.row.RowState.{RowState}
use Rattle.otp_table.specs.declared.row.RowState.TheVariants.{Starting}
use Rattle.otp_table.specs.Rows.{has_process, is_awaited, row_has}
use Rattle.otp_rules.specs.declared.event.Event.{Event}
use Rattle.otp_rules.specs.declared.work.Sequel.{Sequel}
use Rattle.otp_rules.specs.declared.work.Sequel.TheVariants as sequel
use Rattle.otp_rules.specs.State.{State, is_over}
use Rattle.otp_rules.specs.Run.{empty_state, state_after}
use Rattle.otp_rules.specs.Needs.{numbers_of}
use Rattle.otp_rules.specs.Homes.{is_ended}
use Rattle.otp_rules.specs.Progress.{Progress, is_end, IsIn}
use Rattle.otp_rules.specs.Fit.{next_number, rows_in, runs_as, times, IsDistinct, IsFit, IsLawfulFrom, IsSound}

-- the answer to a start is awaited
abbrev pub is_begun : RowState → Bool
is_begun (Starting _ _) = true
is_begun _ = false

-- a child is stopped for a call
abbrev pub is_stop : Option Sequel → Bool
is_stop (Some (sequel.Stopped _)) = true
is_stop _ = false

-- each child that runs is to be stopped, and no answer to a start is awaited
abbrev pub IsStopping : List ℕ → List Row → Type 0
IsStopping ps rows = ((q : ℕ) → rows_in (runs_as q) rows ≤ times q ps) × (rows_in is_begun rows ≡ 0)

-- so it is where the supervisor ends
abbrev pub Finishes : State → Type 0
Finishes s = is_end s.follows ≡ true → IsStopping s.to_stop s.rows

-- a supervisor that was never opened, or that has ended, has no children
abbrev pub IsBare : State → Type 0
IsBare s = is_over s.phase ≡ true → s.rows ≡ []

-- no start is awaited, nor to come, while a child is stopped for a call
abbrev pub IsCalm : State → Type 0
IsCalm s = is_stop s.follows ≡ true → (rows_in is_begun s.rows ≡ 0) × (s.to_start ≡ [])

-- a state that is in order, where the numbers given so far are below m: the lists of its work are sound, each process is
-- the child's in one row, its end stops all, one that has ended has no children, and a stop for a call starts nobody
abbrev pub IsInOrder : ℕ → State → Type 0
IsInOrder m s = IsSound s × IsDistinct m s × Finishes s × IsBare s × IsCalm s

-- a supervisor that was never opened is in order, and a lawful history keeps it so
abbrev pub StaysInOrder : Type 0
StaysInOrder =
    ((flags : SupFlags) (specs : List ChildSpec) → IsInOrder 0 (empty_state flags specs))
    × ((m : ℕ) (s : State) (events : List Event) → IsInOrder m s → IsLawfulFrom m s events → IsInOrder (next_number m (numbers_of events)) (state_after s events))

-- the processes of children, and those whose end waits, are among these
abbrev pub AreGiven : List ℕ → State → Type 0
AreGiven given s = (q : ℕ) → (0 < rows_in (has_process q) s.rows) ⊎ (list_any (is_ended q) s.waiting ≡ true) → IsIn q given

-- open work awaits an answer of a child: between two events it has gone on as far as it can
abbrev pub Awaits : State → Type 0
Awaits s = is_some s.follows ≡ true → list_any (row_has is_awaited) s.rows ≡ true

-- a lawful history keeps it so that open work awaits an answer, from each state that is fit
abbrev pub WorkAwaits : Type 0
WorkAwaits = (m : ℕ) (s : State) (g : Progress) (events : List Event) → IsFit m s g → Awaits s → IsLawfulFrom m s events → Awaits (state_after s events)
