-- Whose children and processes they are (supervisor, child_id(); Supervisor Behaviour, Child Specification, id).
use Rattle.std.specs.Prelude.{◌<◌, ◌≡◌, ℕ, ◌≤◌, ◌++◌, List, None, count_by}
use Rattle.otp_reason.specs.declared.name.Name.{Name}
use Rattle.otp_spec.specs.declared.child.ChildSpec.{ChildSpec}
use Rattle.otp_spec.specs.declared.flags.SupFlags.{SupFlags}
use Rattle.otp_spec.specs.Supervisor.{supervisor_fault}
use Rattle.otp_table.specs.declared.row.Row.{Row}
use Rattle.otp_table.specs.Rows.{has_id}
use Rattle.otp_rules.specs.declared.event.Event.{Event}
use Rattle.otp_rules.specs.State.{State}
use Rattle.otp_rules.specs.Calls.{is_named}
use Rattle.otp_rules.specs.Run.{empty_state, state_after}
use Rattle.otp_rules.specs.Needs.{IsLawfulHistory, numbers_of}
use Rattle.otp_rules.specs.Fit.{IsLawfulFrom}
use Rattle.otp_rules.specs.Lives.{IsHeld}
use Rattle.otp_rules.specs.Named.{AreAmong}
use Rattle.otp_rules.specs.Progress.{IsIn}

-- no two children have one id
abbrev pub AreNamedApart : List Row → Type 0
AreNamedApart rows = (id : Name) → count_by (has_id id) rows ≤ 1

-- nor do two specifications
abbrev pub AreSpecsApart : List ChildSpec → Type 0
AreSpecsApart specs = (id : Name) → count_by (is_named id) specs ≤ 1

-- so it stays along every list of events, if the specifications are so
abbrev pub IdsStayApart : Type 0
IdsStayApart = (s : State) (events : List Event) → AreSpecsApart s.specs → AreNamedApart s.rows → AreNamedApart (state_after s events).rows

-- it holds from the first event on, of each supervisor that may be opened
abbrev pub IdsApart : Type 0
IdsApart = (flags : SupFlags) (specs : List ChildSpec) (events : List Event) → supervisor_fault flags specs ≡ None → AreNamedApart (state_after (empty_state flags specs) events).rows

-- in a lawful history each child's process is one that the history started, or that was given before
abbrev pub ProcessesNumberedFrom : Type 0
ProcessesNumberedFrom =
    (s : State) (given : List ℕ) (events : List Event) → IsLawfulHistory s events → AreAmong given s.rows → AreAmong (given ++ numbers_of events) (state_after s events).rows

-- from the first event on it is one that the history started
abbrev pub ProcessesNumbered : Type 0
ProcessesNumbered =
    (flags : SupFlags) (specs : List ChildSpec) (events : List Event) → IsLawfulHistory (empty_state flags specs) events
    → AreAmong (numbers_of events) (state_after (empty_state flags specs) events).rows

-- a process that was given and that no child has any more, no child has again
abbrev pub ProcessesStayGoneFrom : Type 0
ProcessesStayGoneFrom = (m : ℕ) (s : State) (events : List Event) (p : ℕ) → IsLawfulFrom m s events → p < m → (IsHeld s.rows p → ⊥) → IsHeld (state_after s events).rows p → ⊥

-- it is so from the state that was never opened on
abbrev pub ProcessesStayGone : Type 0
ProcessesStayGone =
    (flags : SupFlags) (specs : List ChildSpec) (events later : List Event) (p : ℕ) → IsLawfulHistory (empty_state flags specs) (events ++ later) → IsIn p (numbers_of events)
    → (IsHeld (state_after (empty_state flags specs) events).rows p → ⊥) → IsHeld (state_after (empty_state flags specs) (events ++ later)).rows p → ⊥
