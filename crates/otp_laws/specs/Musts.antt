-- What an event must do: a significant child's end ends the supervisor (Supervisor Behaviour, Automatic Shutdown), and
-- delete_child takes a child away only if it has no process and waits for no restart (supervisor, delete_child/2).
use Rattle.std.specs.Prelude.{◌≡◌, ◌⊎◌, ℕ, true, false, List, Some, is_some, remove}
use Rattle.otp_reason.specs.declared.name.Name.{Name}
use Rattle.otp_reason.specs.declared.note.Note.TheVariants as note
use Rattle.otp_reason.specs.declared.reason.Reason.{Reason}
use Rattle.otp_spec.specs.declared.child.ChildSpec.{ChildSpec}
use Rattle.otp_spec.specs.declared.flags.SupFlags.{SupFlags}
use Rattle.otp_table.specs.declared.row.Row.{Row}
use Rattle.otp_table.specs.declared.row.RowState.TheVariants.{Undefined, Up}
use Rattle.otp_table.specs.Rows.{has_id}
use Rattle.otp_rules.specs.declared.call.Call.TheVariants as call
use Rattle.otp_rules.specs.declared.ending.Ending.{Ending}
use Rattle.otp_rules.specs.declared.ending.Ending.TheVariants as ending
use Rattle.otp_rules.specs.declared.event.Event.{Event}
use Rattle.otp_rules.specs.declared.event.Item.TheVariants as item
use Rattle.otp_rules.specs.declared.event.Kind.{Kind}
use Rattle.otp_rules.specs.declared.work.Phase.TheVariants.{Ended}
use Rattle.otp_rules.specs.declared.work.Sequel.TheVariants as sequel
use Rattle.otp_rules.specs.State.{State, is_over}
use Rattle.otp_rules.specs.Step.{step}
use Rattle.otp_rules.specs.Run.{empty_state, state_after}
use Rattle.otp_rules.specs.Needs.{IsLawfulHistory}
use Rattle.otp_rules.specs.Homes.{Brings}
use Rattle.otp_rules.specs.Progress.{Progress, ComesBackAfter, HasProcess, IsFirstRow}
use Rattle.otp_rules.specs.Fit.{IsLawfulFrom}
use Rattle.otp_rules.specs.Taken.{EndsBySignificance}
use Rattle.otp_laws.specs.Basis.{IsBasis}
use Rattle.otp_laws.specs.Notes.{ChangesNone}

-- the supervisor ends in this way, or has ended so
abbrev pub IsEnding : State → Ending → Type 0
IsEnding s x = (s.follows ≡ Some (sequel.End x)) ⊎ ((own : ℕ) × (s.phase ≡ Ended own x))

-- the event takes the note that this process ended, while the supervisor runs and no work is open. It is that of a
-- significant child which isn't restarted after such an end, and whose end ends the supervisor
pub record IsSignificantEnd (s : State) (k : Kind) (p : ℕ) : Type 0 where
  pub r : Reason
  pub brings : Brings k s.waiting (item.Note (note.Exit p r))
  pub idle : is_some s.follows ≡ false
  pub runs : is_over s.phase ≡ false
  pub place : ℕ
  pub row : Row
  pub first : IsFirstRow (HasProcess p) s.rows place row
  pub up : row.state ≡ Up p
  pub stays : ComesBackAfter r row.spec.restart → ⊥
  pub ends : EndsBySignificance s.flags.auto_shutdown row s.rows

-- from each state: the event ends the supervisor
abbrev pub SignificantEndsEnd : Type 0
SignificantEndsEnd = (s : State) (e : Event) (p : ℕ) → IsSignificantEnd s e.kind p → IsEnding (step s e).state (ending.Significant p)

-- the event removes the row at this place, whose child is undefined and is the first with the id
pub record RemovesUndefined (s : State) (e : Event) (id : Name) : Type 0 where
  pub place : ℕ
  pub row : Row
  pub first : IsFirstRow (λ other. has_id id other ≡ true) s.rows place row
  pub down : row.state ≡ Undefined
  pub removed : (step s e).state.rows ≡ remove s.rows place

-- after a lawful history from a basis delete_child changes no row, or removes that of a child which is undefined
abbrev pub DeletesUndefinedFrom : Type 0
DeletesUndefinedFrom =
    (m : ℕ) (s : State) (g : Progress) (events : List Event) (e : Event) (c : ℕ) (id : Name) → IsBasis m s g → IsLawfulFrom m s events
    → Brings e.kind (state_after s events).waiting (item.Call c (call.DeleteChild id))
    → ChangesNone (state_after s events) e ⊎ RemovesUndefined (state_after s events) e id

-- it is so from the state that was never opened on
abbrev pub DeletesUndefined : Type 0
DeletesUndefined =
    (flags : SupFlags) (specs : List ChildSpec) (events : List Event) (e : Event) (c : ℕ) (id : Name) → IsLawfulHistory (empty_state flags specs) events
    → Brings e.kind (state_after (empty_state flags specs) events).waiting (item.Call c (call.DeleteChild id))
    → ChangesNone (state_after (empty_state flags specs) events) e ⊎ RemovesUndefined (state_after (empty_state flags specs) events) e id
