-- Tests by which it is seen whether a checkpoint is in order, and what a refusal says.
use Rattle.std.specs.Prelude.{◌≡◌, ◌+◌, ◌≤◌, ◌&&◌, ℕ, Bool, true, false, List, [], is_some, nat_le}
use Rattle.otp_table.specs.declared.row.Row.{Row}
use Rattle.otp_table.specs.declared.row.RowState.{RowState}
use Rattle.otp_table.specs.declared.row.RowState.TheVariants.{Undefined, Starting, Up, Asked, Killed, Restarting}
use Rattle.otp_table.specs.Rows.{has_process, is_awaited}
use Rattle.otp_rules.specs.Fit.{rows_in, runs_as, times, IsDistinct, IsLimited, IsSound}
use Rattle.otp_rules.specs.InOrder.{is_begun, Finishes, IsBare, IsCalm}
use Rattle.otp_rules.specs.Progress.{ends_together, is_end}
use Rattle.otp_rules.specs.State.{State, is_over}
use Rattle.otp_base.specs.declared.base.Base.{Base}
use Rattle.otp_base.specs.States.{state_in}
use Rattle.otp_needs.specs.declared.order.order.OrderFault.{OrderFault}
use Rattle.otp_needs.specs.declared.order.order.OrderFault.TheVariants as fault

-- the process is a child's that runs, as often as it is to be stopped
unfoldable pub is_covered : List ℕ → List Row → ℕ → Bool
is_covered ps rows p = nat_le (times p ps) (rows_in (runs_as p) rows)

abbrev pub stops : List ℕ → List Row → RowState → Bool
stops ps rows (Up p) = nat_le (rows_in (runs_as p) rows) (times p ps)
stops ps rows _ = true

-- the child, if it runs, is to be stopped
abbrev pub is_to_stop : List ℕ → List Row → Row → Bool
is_to_stop ps rows row = stops ps rows row.state

-- the process is one child's, and its number is no greater than this one
abbrev pub is_given : ℕ → List Row → ℕ → Bool
is_given greatest rows p = nat_le p greatest && nat_le (rows_in (has_process p) rows) 1

abbrev pub given_in : ℕ → List Row → RowState → Bool
given_in greatest rows Undefined = true
given_in greatest rows (Starting p _) = is_given greatest rows p
given_in greatest rows (Up p) = is_given greatest rows p
given_in greatest rows (Asked p _) = is_given greatest rows p
given_in greatest rows (Killed p) = is_given greatest rows p
given_in greatest rows (Restarting _) = true

-- the child's process, if it has one, is so
abbrev pub is_lone : ℕ → List Row → Row → Bool
is_lone greatest rows row = given_in greatest rows row.state

-- no more answers are awaited than the open work may await
abbrev pub AwaitsFew : State → Type 0
AwaitsFew s = IsLimited s.follows (rows_in is_awaited s.rows)

-- parts of the end of a supervisor: each child that runs is to be stopped; no answer to a start is awaited
abbrev pub StopsRunning : State → Type 0
StopsRunning s = (q : ℕ) → rows_in (runs_as q) s.rows ≤ times q s.to_stop

abbrev pub BeginsNobody : State → Type 0
BeginsNobody s = rows_in is_begun s.rows ≡ 0

-- parts of what makes open work sound: nothing is to be done where no work is open; none is open where the supervisor doesn't
-- run; an end starts nobody; and nobody is left to stop where dynamic children end together
abbrev pub IsIdle : State → Type 0
IsIdle s = is_some s.follows ≡ false → (s.to_stop ≡ []) × (s.to_start ≡ [])

abbrev pub IsRunning : State → Type 0
IsRunning s = is_over s.phase ≡ true → is_some s.follows ≡ false

abbrev pub StartsNobody : State → Type 0
StartsNobody s = is_end s.follows ≡ true → s.to_start ≡ []

abbrev pub StopsNobody : State → Type 0
StopsNobody s = ends_together s ≡ true → s.to_stop ≡ []

-- what isn't in order
abbrev pub IsOutOfOrder : Base → OrderFault → Type 0
IsOutOfOrder b fault.Work = IsSound (state_in b) → ⊥
IsOutOfOrder b fault.Processes = IsDistinct (b.counts.greatest_number + 1) (state_in b) → ⊥
IsOutOfOrder b fault.Ending = Finishes (state_in b) → ⊥
IsOutOfOrder b fault.Rows = IsBare (state_in b) → ⊥
IsOutOfOrder b fault.Stopping = IsCalm (state_in b) → ⊥
