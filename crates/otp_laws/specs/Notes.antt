-- How often a note changes the children's rows (Supervisor Behaviour, Starting a Supervisor and Stopping; once is own).
use Rattle.std.specs.Prelude.{◌≡◌, ◌⊎◌, ℕ, ◌==◌, ◌++◌, Bool, false, List, ◌∷◌, Option, None, Some, Contains}
use Rattle.otp_reason.specs.declared.note.Note.{Note}
use Rattle.otp_reason.specs.declared.note.Note.TheVariants as note
use Rattle.otp_spec.specs.declared.child.ChildSpec.{ChildSpec}
use Rattle.otp_spec.specs.declared.flags.SupFlags.{SupFlags}
use Rattle.otp_table.specs.declared.row.Row.{Row}
use Rattle.otp_table.specs.declared.row.RowState.{RowState}
use Rattle.otp_table.specs.declared.row.RowState.TheVariants.{Asked, Killed, Up}
use Rattle.otp_rules.specs.declared.event.Event.{Event}
use Rattle.otp_rules.specs.declared.event.Item.TheVariants as item
use Rattle.otp_rules.specs.State.{State}
use Rattle.otp_rules.specs.Step.{step}
use Rattle.otp_rules.specs.Run.{empty_state, state_after}
use Rattle.otp_rules.specs.Needs.{IsLawfulHistory}
use Rattle.otp_rules.specs.Homes.{Brings}
use Rattle.otp_rules.specs.Progress.{Progress, exit_number}
use Rattle.otp_rules.specs.Fit.{is_starting, IsLawfulFrom}
use Rattle.otp_laws.specs.Basis.{IsBasis}

-- the process whose start the note answers: it runs, or the child stays without one
abbrev pub answer_number : Note → Option ℕ
answer_number (note.Up p) = Some p
answer_number (note.Ignored p) = Some p
answer_number (note.Failed p _) = Some p
answer_number (note.Exit p _) = None

-- the process came up: it runs, or was told to stop
abbrev pub has_come_up : ℕ → RowState → Bool
has_come_up p (Up q) = q == p
has_come_up p (Asked q _) = q == p
has_come_up p (Killed q) = q == p
has_come_up p _ = false

-- a child in this state awaits the note: an answer where its start has none yet, an Exit where its process came up
abbrev pub awaits : Note → RowState → Bool
awaits (note.Up p) state = is_starting p state
awaits (note.Ignored p) state = is_starting p state
awaits (note.Failed p _) state = is_starting p state
awaits (note.Exit p _) state = has_come_up p state

-- no child awaits the note
abbrev pub IsUnawaited : Note → List Row → Type 0
IsUnawaited x rows = (row : Row) → Contains rows row → awaits x row.state ≡ false

-- the event changes no row
abbrev pub ChangesNone : State → Event → Type 0
ChangesNone s e = (step s e).state.rows ≡ s.rows

-- both answer the start of one process, or both tell that it ended
abbrev pub AreAlike : Note → Note → Type 0
AreAlike x y = (p : ℕ) × (((answer_number x ≡ Some p) × (answer_number y ≡ Some p)) ⊎ ((exit_number x ≡ Some p) × (exit_number y ≡ Some p)))

-- after a lawful history from a basis: an event that takes a note which no child awaits changes no row
abbrev pub UnawaitedChangesNoneFrom : Type 0
UnawaitedChangesNoneFrom =
    (m : ℕ) (s : State) (g : Progress) (events : List Event) (e : Event) (x : Note) → IsBasis m s g → IsLawfulFrom m s events
    → Brings e.kind (state_after s events).waiting (item.Note x) → IsUnawaited x (state_after s events).rows → ChangesNone (state_after s events) e

-- it is so from the state that was never opened on
abbrev pub UnawaitedChangesNone : Type 0
UnawaitedChangesNone =
    (flags : SupFlags) (specs : List ChildSpec) (events : List Event) (e : Event) (x : Note) → IsLawfulHistory (empty_state flags specs) events
    → Brings e.kind (state_after (empty_state flags specs) events).waiting (item.Note x) → IsUnawaited x (state_after (empty_state flags specs) events).rows
    → ChangesNone (state_after (empty_state flags specs) events) e

-- of two events of a lawful history from a basis that take such notes of one process, one changes no row
abbrev pub NotesCountOnceFrom : Type 0
NotesCountOnceFrom =
    (m : ℕ) (s : State) (g : Progress) (events between : List Event) (e f : Event) (x y : Note) → IsBasis m s g → IsLawfulFrom m s (events ++ e ∷ between)
    → Brings e.kind (state_after s events).waiting (item.Note x) → Brings f.kind (state_after s (events ++ e ∷ between)).waiting (item.Note y) → AreAlike x y
    → ChangesNone (state_after s events) e ⊎ ChangesNone (state_after s (events ++ e ∷ between)) f

-- it is so from the state that was never opened on
abbrev pub NotesCountOnce : Type 0
NotesCountOnce =
    (flags : SupFlags) (specs : List ChildSpec) (events between : List Event) (e f : Event) (x y : Note)
    → IsLawfulHistory (empty_state flags specs) (events ++ e ∷ between) → Brings e.kind (state_after (empty_state flags specs) events).waiting (item.Note x)
    → Brings f.kind (state_after (empty_state flags specs) (events ++ e ∷ between)).waiting (item.Note y) → AreAlike x y
    → ChangesNone (state_after (empty_state flags specs) events) e ⊎ ChangesNone (state_after (empty_state flags specs) (events ++ e ∷ between)) f
