-- A child's process lives until its end was taken: what an event does to the processes that live (own).
use Rattle.std.specs.Prelude.{◌≡◌, ◌⊎◌, ℕ, Bool, true, false, List, Some, Contains, count_by, is_some}
use Rattle.otp_reason.specs.declared.note.Note.{Note}
use Rattle.otp_reason.specs.declared.note.Note.TheVariants as note
use Rattle.otp_spec.specs.declared.child.ChildSpec.{ChildSpec}
use Rattle.otp_spec.specs.declared.flags.SupFlags.{SupFlags}
use Rattle.otp_table.specs.declared.row.Row.{Row}
use Rattle.otp_table.specs.declared.row.RowState.{RowState}
use Rattle.otp_table.specs.Rows.{has_process}
use Rattle.otp_rules.specs.declared.event.Event.{Event}
use Rattle.otp_rules.specs.declared.event.Item.TheVariants as item
use Rattle.otp_rules.specs.declared.event.Kind.{Kind}
use Rattle.otp_rules.specs.declared.event.Kind.TheVariants as kind
use Rattle.otp_rules.specs.State.{State}
use Rattle.otp_rules.specs.Stops.{is_exit}
use Rattle.otp_rules.specs.Step.{step}
use Rattle.otp_rules.specs.Run.{empty_state, state_after}
use Rattle.otp_rules.specs.Needs.{IsLawfulHistory, needs_number}
use Rattle.otp_rules.specs.Homes.{end_number}
use Rattle.otp_rules.specs.Fit.{is_starting, IsLawfulFrom}
use Rattle.otp_rules.specs.InOrder.{IsInOrder}
use Rattle.otp_rules.specs.Lives.{IsHeldIn}

-- a child has this process, in this slot, and no Exit of it waits
abbrev pub LivesIn : State → ℕ → ℕ → Type 0
LivesIn s slot p = IsHeldIn s.rows slot p × (count_by (is_exit p) s.waiting ≡ 0)

-- the note tells the end of the process of a child in this state: an Exit does, Ignored and Failed do while it is starting
abbrev pub is_told_by : Note → RowState → Bool
is_told_by (note.Up _) state = false
is_told_by (note.Ignored p) state = is_starting p state
is_told_by (note.Failed p _) state = is_starting p state
is_told_by (note.Exit p _) state = has_process p state

-- the event takes a note that tells the end of this process, of a child that has it
abbrev pub EndsChild : State → Kind → ℕ → Type 0
EndsChild s k p = (x : Note) × (k ≡ kind.Took (item.Note x)) × (end_number x ≡ Some p) × ((row : Row) × Contains s.rows row × (is_told_by x row.state ≡ true))

-- from each state that is in order: after a lawful history and an event more, which has a number where it starts a child, a
-- process that lives is the one that the event starts; or it lived before the event, in the same slot, and the event
-- doesn't take the note of its end
abbrev pub ProcessesLivedFrom : Type 0
ProcessesLivedFrom =
    (m : ℕ) (s : State) (events : List Event) (e : Event) → IsInOrder m s → IsLawfulFrom m s events
    → is_some e.number ≡ needs_number (state_after s events) e.reading e.kind
    → (slot p : ℕ) → LivesIn (step (state_after s events) e).state slot p
    → (e.number ≡ Some p) ⊎ (LivesIn (state_after s events) slot p × (EndsChild (state_after s events) e.kind p → ⊥))

-- it is so from the state that was never opened on
abbrev pub ProcessesLived : Type 0
ProcessesLived =
    (flags : SupFlags) (specs : List ChildSpec) (events : List Event) (e : Event) → IsLawfulHistory (empty_state flags specs) events
    → is_some e.number ≡ needs_number (state_after (empty_state flags specs) events) e.reading e.kind
    → (slot p : ℕ) → LivesIn (step (state_after (empty_state flags specs) events) e).state slot p
    → (e.number ≡ Some p) ⊎ (LivesIn (state_after (empty_state flags specs) events) slot p × (EndsChild (state_after (empty_state flags specs) events) e.kind p → ⊥))
