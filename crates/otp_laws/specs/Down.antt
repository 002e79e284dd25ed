-- What is left of a child after the `ok` to the call that was to delete or to stop it (supervisor, delete_child/2 and
-- terminate_child/2).
use Rattle.std.specs.Prelude.{◌≡◌, ◌⊎◌, ◌&&◌, ◌≤◌, ℕ, ◌++◌, Bool, true, false, List, None, Some, All, Contains, length, nat_lt, count_by}
use Rattle.otp_spec.specs.declared.child.ChildSpec.{ChildSpec}
use Rattle.otp_spec.specs.declared.flags.SupFlags.{SupFlags}
use Rattle.otp_spec.specs.declared.limits.TheConstants.{MAX_CHILDREN}
use Rattle.otp_spec.specs.Supervisor.{supervisor_fault}
use Rattle.otp_table.specs.declared.row.Row.{Row}
use Rattle.otp_table.specs.declared.row.RowState.{RowState}
use Rattle.otp_table.specs.declared.row.RowState.TheVariants.{Asked, Killed, Restarting, Starting, Undefined, Up}
use Rattle.otp_table.specs.Rows.{has_id, has_number, has_slot}
use Rattle.otp_rules.specs.declared.call.Answered.{Answered}
use Rattle.otp_rules.specs.declared.call.Call.{Call}
use Rattle.otp_rules.specs.declared.call.Call.TheVariants as call
use Rattle.otp_rules.specs.declared.call.Reply.TheVariants as reply
use Rattle.otp_rules.specs.declared.event.Event.{Event}
use Rattle.otp_rules.specs.declared.event.Item.TheVariants as item
use Rattle.otp_rules.specs.declared.work.Sequel.TheVariants as sequel
use Rattle.otp_rules.specs.State.{State}
use Rattle.otp_rules.specs.Step.{step}
use Rattle.otp_rules.specs.Run.{empty_state, state_after}
use Rattle.otp_rules.specs.Needs.{IsLawfulHistory}
use Rattle.otp_rules.specs.Homes.{Brings}
use Rattle.otp_rules.specs.Progress.{Progress, decided, no_progress, IsCall, IsFirstRow}
use Rattle.otp_rules.specs.Fit.{times, IsLawfulFrom}
use Rattle.otp_rules.specs.Order.{progress_at}
use Rattle.otp_rules.specs.Slots.{AreSlotted}
use Rattle.otp_laws.specs.Basis.{IsBasis}
use Rattle.otp_laws.specs.Ids.{AreNamedApart, AreSpecsApart}

-- each child that passes the test is undefined: it has no process, and waits for no restart
abbrev pub AreDown : (Row → Bool) → List Row → Type 0
AreDown test rows = (row : Row) → Contains rows row → test row ≡ true → row.state ≡ Undefined

-- the first child with this number, when the children were these: its process has it, or its next restart
abbrev pub IsFirstNumbered : ℕ → List Row → ℕ → Row → Type 0
IsFirstNumbered p old place row = IsFirstRow (λ other. has_number p other.state ≡ true) old place row

-- what the call asked for is done: of the children as they stood when it was taken these are left. After delete_child none has
-- the id; after terminate_child each with the id is undefined or, under simple_one_for_one, each in the slot of the child that
-- the number named
abbrev pub LeavesDown : Call → List Row → List Row → Type 0
LeavesDown (call.DeleteChild id) old new = (row : Row) → Contains new row → has_id id row ≡ false
LeavesDown (call.TerminateChild id) old new = AreDown (has_id id) new
LeavesDown (call.TerminateProcess p) old new = (place : ℕ) × (row : Row) × IsFirstNumbered p old place row × AreDown (has_slot row.slot) new
LeavesDown _ old new = ⊥

-- the call was taken under this number when the children were these: by this event, or by the one that opened the work which
-- is open before this event's goes on
abbrev pub IsAsked : State → Event → Progress → ℕ → Call → List Row → Type 0
IsAsked s e g c asked rows =
    (Brings e.kind s.waiting (item.Call c asked) × (rows ≡ s.rows))
    ⊎ (IsCall g.took c asked × ((decided s e).follows ≡ Some (sequel.Stopped c)) × (rows ≡ g.before.rows))

-- after an event that gives this answer, if it is ok, what the call asked for is done
abbrev pub IsDownAfter : State → Event → Progress → Answered → Type 0
IsDownAfter s e g a = a.reply ≡ reply.Ok → (asked : Call) × (rows : List Row) × IsAsked s e g a.call asked rows × LeavesDown asked rows (step s e).state.rows

-- so it is of each answer that the event gives
abbrev pub AreDownAfter : State → Event → Progress → Type 0
AreDownAfter s e g = (given : List Answered) × ((step s e).state.replies ≡ s.replies ++ given) × All (IsDownAfter s e g) given

-- where these processes are still to be stopped, a child in this state has a process that is none of them and wasn't told to
-- stop, or waits for its next restart
abbrev pub is_kept : List ℕ → RowState → Bool
is_kept ps Undefined = false
is_kept ps (Starting _ _) = true
is_kept ps (Up p) = nat_lt (times p ps) 1
is_kept ps (Asked _ _) = false
is_kept ps (Killed _) = false
is_kept ps (Restarting _) = true

-- no child that passes the test is in such a state
abbrev pub AreSinking : (Row → Bool) → List ℕ → List Row → Type 0
AreSinking test ps rows = count_by (λ row. test row && is_kept ps row.state) rows ≤ 0

-- the child that the call names is on its way down
abbrev pub IsSinking : Call → List Row → List ℕ → List Row → Type 0
IsSinking (call.TerminateChild id) old ps rows = AreSinking (has_id id) ps rows
IsSinking (call.TerminateProcess p) old ps rows = (place : ℕ) × (row : Row) × IsFirstNumbered p old place row × AreSinking (has_slot row.slot) ps rows
IsSinking _ old ps rows = ⊥

-- while a child is stopped for a call, it is the one that the call names which is on its way down
abbrev pub StopsItsChild : State → Progress → Type 0
StopsItsChild s g = (c : ℕ) → s.follows ≡ Some (sequel.Stopped c) → (asked : Call) × IsCall g.took c asked × IsSinking asked g.before.rows s.to_stop s.rows

-- no two children have one slot, nor one id, nor will they
pub record AreApart (s : State) : Type 0 where
  pub few : length s.specs ≤ MAX_CHILDREN
  pub slots : AreSlotted s.rows
  pub specs : AreSpecsApart s.specs
  pub ids : AreNamedApart s.rows

-- so it is after each lawful history from such a basis
abbrev pub OkLeavesDownFrom : Type 0
OkLeavesDownFrom =
    (m : ℕ) (s : State) (g : Progress) (events : List Event) (e : Event) → IsBasis m s g → StopsItsChild s g → AreApart s → IsLawfulFrom m s events
    → AreDownAfter (state_after s events) e (progress_at s g events e)

-- it is so from the state that was never opened on
abbrev pub OkLeavesDown : Type 0
OkLeavesDown =
    (flags : SupFlags) (specs : List ChildSpec) (events : List Event) (e : Event) → supervisor_fault flags specs ≡ None → IsLawfulHistory (empty_state flags specs) events
    → AreDownAfter (state_after (empty_state flags specs) events) e (progress_at (empty_state flags specs) (no_progress (empty_state flags specs)) events e)
