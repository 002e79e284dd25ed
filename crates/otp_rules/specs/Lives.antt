-- A child's process from its start to the note of its end: until that note was taken the process stays its child's, in one
-- slot, and the supervisor doesn't end (own).
use Rattle.std.specs.Prelude.{◌≡◌, ◌⊎◌, ◌++◌, ℕ, true, List, [], Some, Contains}
use Rattle.std.specs.List.{list_any}
use Rattle.otp_reason.specs.declared.note.Note.{Note}
use Rattle.otp_spec.specs.declared.child.ChildSpec.{ChildSpec}
use Rattle.otp_spec.specs.declared.flags.SupFlags.{SupFlags}
use Rattle.otp_table.specs.declared.row.Row.{Row}
use Rattle.otp_table.specs.Rows.{has_process}
use Rattle.otp_rules.specs.declared.event.Event.{Event}
use Rattle.otp_rules.specs.declared.event.Item.TheVariants as item
use Rattle.otp_rules.specs.declared.event.Kind.{Kind}
use Rattle.otp_rules.specs.declared.event.Kind.TheVariants as kind
use Rattle.otp_rules.specs.State.{State, is_over}
use Rattle.otp_rules.specs.Step.{step}
use Rattle.otp_rules.specs.Run.{empty_state, state_after}
use Rattle.otp_rules.specs.Needs.{IsLawfulHistory, IsNumbered, numbers_of}
use Rattle.otp_rules.specs.Homes.{end_number, is_ended}
use Rattle.otp_rules.specs.Progress.{IsIn}
use Rattle.otp_rules.specs.Fit.{IsLawfulFrom, IsSound}
use Rattle.otp_rules.specs.InOrder.{AreGiven, IsBare, IsInOrder}

-- the event takes the note of this process's end
abbrev pub TakesEnd : Kind → ℕ → Type 0
TakesEnd k p = (x : Note) × (k ≡ kind.Took (item.Note x)) × (end_number x ≡ Some p)

-- the note of this process's end was taken before the event and waits, or the event takes it
abbrev pub HasEnded : State → Kind → ℕ → Type 0
HasEnded s k p = (list_any (is_ended p) s.waiting ≡ true) ⊎ TakesEnd k p

-- a child has this process
abbrev pub IsHeld : List Row → ℕ → Type 0
IsHeld rows p = (row : Row) × Contains rows row × (has_process p row.state ≡ true)

-- a child has this process, in this slot
abbrev pub IsHeldIn : List Row → ℕ → ℕ → Type 0
IsHeldIn rows slot p = (row : Row) × Contains rows row × (row.slot ≡ slot) × (has_process p row.state ≡ true)

-- an end that waits after an event waited before it, or the event takes it, and it is that of a child's process
abbrev pub EndsAreHeard : Type 0
EndsAreHeard = (s : State) (e : Event) (p : ℕ) → list_any (is_ended p) (step s e).state.waiting ≡ true → (list_any (is_ended p) s.waiting ≡ true) ⊎ (TakesEnd e.kind p × IsHeld s.rows p)

-- so an end that waits tells of a process that the history started, or that was given before it
abbrev pub EndsTellStartedFrom : Type 0
EndsTellStartedFrom =
    (given : List ℕ) (s : State) (events : List Event) (p : ℕ) → AreGiven given s → IsNumbered s events
    → list_any (is_ended p) (state_after s events).waiting ≡ true → IsIn p (given ++ numbers_of events)

-- it holds from the state that was never opened, too, of a process that the history started
abbrev pub EndsTellStarted : Type 0
EndsTellStarted =
    (flags : SupFlags) (specs : List ChildSpec) (events : List Event) (p : ℕ) → IsLawfulHistory (empty_state flags specs) events
    → list_any (is_ended p) (state_after (empty_state flags specs) events).waiting ≡ true → IsIn p (numbers_of events)

-- from each state that is in order a child's process stays that child's, in its slot, unless its end was taken, or the
-- event takes it
abbrev pub ProcessesStayFrom : Type 0
ProcessesStayFrom =
    (m : ℕ) (s : State) (events : List Event) (e : Event) → IsInOrder m s → IsLawfulFrom m s events
    → (row : Row) (p : ℕ) → Contains (state_after s events).rows row → has_process p row.state ≡ true
    → HasEnded (state_after s events) e.kind p ⊎ IsHeldIn (step (state_after s events) e).state.rows row.slot p

-- it is so from the state that was never opened on
abbrev pub ProcessesStay : Type 0
ProcessesStay =
    (flags : SupFlags) (specs : List ChildSpec) (events : List Event) (e : Event) → IsLawfulHistory (empty_state flags specs) events
    → (row : Row) (p : ℕ) → Contains (state_after (empty_state flags specs) events).rows row → has_process p row.state ≡ true
    → HasEnded (state_after (empty_state flags specs) events) e.kind p ⊎ IsHeldIn (step (state_after (empty_state flags specs) events) e).state.rows row.slot p

-- so no end of the supervisor comes before that of each child's process
abbrev pub EndComesLastFrom : Type 0
EndComesLastFrom =
    (m : ℕ) (s : State) (events : List Event) (e : Event) → IsInOrder m s → IsLawfulFrom m s events
    → is_over (step (state_after s events) e).state.phase ≡ true
    → (row : Row) (p : ℕ) → Contains (state_after s events).rows row → has_process p row.state ≡ true → HasEnded (state_after s events) e.kind p

-- it is so from the state that was never opened on
abbrev pub EndComesLast : Type 0
EndComesLast =
    (flags : SupFlags) (specs : List ChildSpec) (events : List Event) (e : Event) → IsLawfulHistory (empty_state flags specs) events
    → is_over (step (state_after (empty_state flags specs) events) e).state.phase ≡ true
    → (row : Row) (p : ℕ) → Contains (state_after (empty_state flags specs) events).rows row → has_process p row.state ≡ true → HasEnded (state_after (empty_state flags specs) events) e.kind p

-- a supervisor that was never opened, or that has ended, has no children: whatever happens from a sound state on of which
-- that is so
abbrev pub EndedHasNoRowsFrom : Type 0
EndedHasNoRowsFrom = (s : State) (events : List Event) → IsSound s → IsBare s → IsBare (state_after s events)

-- it is so from the state that was never opened on
abbrev pub EndedHasNoRows : Type 0
EndedHasNoRows =
    (flags : SupFlags) (specs : List ChildSpec) (events : List Event)
    → is_over (state_after (empty_state flags specs) events).phase ≡ true → (state_after (empty_state flags specs) events).rows ≡ []
