-- For which children an event opens work: those that the call or the note names that it takes (Supervisor Behaviour,
-- Restart Strategy, and Child Specification, restart; supervisor, start_child/2, restart_child/2, terminate_child/2). And
-- what it takes where it ends the supervisor (Maximum Restart Intensity, Automatic Shutdown, Starting a Supervisor).
use Rattle.std.specs.Prelude.{◌≡◌, ◌⊎◌, ℕ, true, false, List, Some, map, reverse, count_by, slice_get}
use Rattle.otp_reason.specs.declared.note.Note.TheVariants as note
use Rattle.otp_reason.specs.declared.reason.Reason.{Reason}
use Rattle.otp_spec.specs.declared.child.ChildSpec.{ChildSpec}
use Rattle.otp_spec.specs.declared.flags.AutoShutdown.{AutoShutdown}
use Rattle.otp_spec.specs.declared.flags.AutoShutdown.TheVariants.{Never, AnySignificant, AllSignificant}
use Rattle.otp_spec.specs.declared.flags.SupFlags.{SupFlags}
use Rattle.otp_table.specs.declared.row.Row.{Row}
use Rattle.otp_table.specs.declared.row.RowState.TheVariants.{Starting, Up}
use Rattle.otp_table.specs.Rows.{is_left}
use Rattle.otp_rules.specs.declared.ending.Ending.{Ending}
use Rattle.otp_rules.specs.declared.ending.Ending.TheVariants as ending
use Rattle.otp_rules.specs.declared.event.Event.{Event}
use Rattle.otp_rules.specs.declared.event.Item.TheVariants as item
use Rattle.otp_rules.specs.declared.event.Kind.{Kind}
use Rattle.otp_rules.specs.declared.event.Kind.TheVariants as kind
use Rattle.otp_rules.specs.declared.event.Waiting.TheVariants as waiting
use Rattle.otp_rules.specs.declared.work.Due.{Due}
use Rattle.otp_rules.specs.declared.work.Sequel.TheVariants as sequel
use Rattle.otp_rules.specs.State.{State}
use Rattle.otp_rules.specs.Run.{empty_state, state_after}
use Rattle.otp_rules.specs.Progress.{decided, ends_together, id_bytes, is_opened, opened_now, processes, start_list, taken, ComesBackAfter, HasDied, HasProcess, IsExit, IsFirstRow, IsPart, IsTriedAgain}
use Rattle.otp_rules.specs.Fit.{IsSound}

-- the work to be done is that of these children: their processes are to be stopped, in reverse start order, and those of
-- them are to be started that work with this sequel starts, in start order
pub record IsWorkOf (part : List Row) (s : State) : Type 0 where
  pub stops : s.to_stop ≡ reverse (processes part)
  pub starts : map (λ (x : Due). id_bytes x.id) s.to_start ≡ map (λ (x : Row). id_bytes x.id) (start_list s.follows part)

-- work that the event opens is that of the children which what it takes names; but dynamic children that end together
-- have no stop list
abbrev pub OpensForTaken : State → Event → Type 0
OpensForTaken s e =
    is_opened s.follows (decided s e).follows ≡ true → ends_together (decided s e) ≡ false
    → (part : List Row) × IsPart (opened_now s (taken e.kind s.waiting) (decided s e)) part × IsWorkOf part (decided s e)

-- the end of this significant child ends the supervisor: any such, or that of the last that is left (Automatic Shutdown)
abbrev pub EndsBySignificance : AutoShutdown → Row → List Row → Type 0
EndsBySignificance Never row rows = ⊥
EndsBySignificance AnySignificant row rows = row.spec.significant ≡ true
EndsBySignificance AllSignificant row rows = (row.spec.significant ≡ true) × (count_by is_left rows ≡ 1)

-- an event of this kind, which came in the state s, ends the supervisor in this way: it took what makes a restart due; or
-- the note that the process of a significant child ended, which isn't restarted after such an end; or the parent asked; or
-- it took the note that a start of the opening failed
abbrev pub IsEndedBy : Kind → State → Ending → Type 0
IsEndedBy k s ending.Intensity = (place : ℕ) × (row : Row) × (HasDied (taken k s.waiting) s.rows place row ⊎ IsTriedAgain (taken k s.waiting) s.rows place row)
IsEndedBy k s (ending.Significant p) =
    (r : Reason) × (place : ℕ) × (row : Row) × IsExit (taken k s.waiting) p r × IsFirstRow (HasProcess p) s.rows place row
    × (row.state ≡ Up p) × (ComesBackAfter r row.spec.restart → ⊥) × EndsBySignificance s.flags.auto_shutdown row s.rows
IsEndedBy k s ending.Asked = k ≡ kind.Stopped
IsEndedBy k s (ending.InitFailed id) =
    (s.follows ≡ Some sequel.Ready)
    × (p : ℕ) × (r : Reason) × (place : ℕ) × (row : Row) × (kept : ℕ)
    × (taken k s.waiting ≡ Some (waiting.Item (item.Note (note.Failed p r))))
    × (slice_get s.rows place ≡ Some row) × (row.state ≡ Starting p kept) × (row.spec.id ≡ id)

-- where the event ends the supervisor, it is for what it takes
abbrev pub EndsForTaken : State → Event → Type 0
EndsForTaken s e = (x : Ending) → is_opened s.follows (decided s e).follows ≡ true → (decided s e).follows ≡ Some (sequel.End x) → IsEndedBy e.kind s x

-- so it is whatever happened, from each state whose open work is sound
abbrev pub WorkIsForTaken : Type 0
WorkIsForTaken = (s : State) (events : List Event) (e : Event) → IsSound s → OpensForTaken (state_after s events) e

abbrev pub EndIsForTaken : Type 0
EndIsForTaken = (s : State) (events : List Event) (e : Event) → IsSound s → EndsForTaken (state_after s events) e

-- it is so from the state that was never opened on
abbrev pub WorkIsForTakenFromEmpty : Type 0
WorkIsForTakenFromEmpty = (flags : SupFlags) (specs : List ChildSpec) (events : List Event) (e : Event) → OpensForTaken (state_after (empty_state flags specs) events) e

abbrev pub EndIsForTakenFromEmpty : Type 0
EndIsForTakenFromEmpty = (flags : SupFlags) (specs : List ChildSpec) (events : List Event) (e : Event) → EndsForTaken (state_after (empty_state flags specs) events) e
