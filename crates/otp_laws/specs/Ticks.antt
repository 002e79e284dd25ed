-- What an event that ticks does to each child: it is killed if its deadline has come, and else stays as it is (Supervisor
-- Behaviour, Child Specification, shutdown).
use Rattle.std.specs.Prelude.{◌≡◌, ℕ, List, Some, Contains, length, max, slice_get}
use Rattle.otp_spec.specs.declared.child.ChildSpec.{ChildSpec}
use Rattle.otp_spec.specs.declared.flags.SupFlags.{SupFlags}
use Rattle.otp_table.specs.declared.row.Row.{Row}
use Rattle.otp_table.specs.declared.row.RowState.TheVariants.{Killed}
use Rattle.otp_table.specs.Rows.{with_state}
use Rattle.otp_rules.specs.declared.event.Effect.TheVariants as effect
use Rattle.otp_rules.specs.declared.event.Event.{Event}
use Rattle.otp_rules.specs.declared.event.Kind.TheVariants as kind
use Rattle.otp_rules.specs.State.{Outcome, State}
use Rattle.otp_rules.specs.Step.{step}
use Rattle.otp_rules.specs.Run.{empty_state, state_after}
use Rattle.otp_rules.specs.Needs.{IsLawfulHistory}
use Rattle.otp_rules.specs.Progress.{Progress}
use Rattle.otp_rules.specs.Fit.{IsFit, IsLawfulFrom}
use Rattle.otp_rules.specs.InOrder.{Awaits}
use Rattle.otp_rules.specs.Late.{IsDueToDie}

-- from this state, at this reading of the clock, each late child is killed, and nothing else changes
pub record KillsEachLate (s : State) (reading : ℕ) (after : Outcome) : Type 0 where
  -- a child that is due to die: its kill is ordered, and its row stands at its place as it was, but in the state Killed
  pub late : (place : ℕ) (row : Row) (p : ℕ) → slice_get s.rows place ≡ Some row → IsDueToDie s reading row p
      → Contains after.orders (effect.Kill row.id p) × (slice_get after.state.rows place ≡ Some (with_state (Killed p) row))
  -- each other child: its row stands at its place as it was
  pub others : (place : ℕ) (row : Row) → slice_get s.rows place ≡ Some row → ((p : ℕ) → IsDueToDie s reading row p → ⊥) → slice_get after.state.rows place ≡ Some row
  -- no row comes, and none goes
  pub as_many : length after.state.rows ≡ length s.rows
  -- of the rest of the state the stamp of the last event alone is new
  pub else_same : after.state ≡ record s { rows = after.state.rows; last = max reading s.last }

-- from each state that is fit and whose open work awaits an answer, an event that ticks does so
abbrev pub TicksKillEachLateFrom : Type 0
TicksKillEachLateFrom =
    (m : ℕ) (s : State) (g : Progress) (events : List Event) (e : Event) → IsFit m s g → Awaits s → IsLawfulFrom m s events → e.kind ≡ kind.Ticked
    → KillsEachLate (state_after s events) e.reading (step (state_after s events) e)

-- it is so from the state that was never opened on
abbrev pub TicksKillEachLate : Type 0
TicksKillEachLate =
    (flags : SupFlags) (specs : List ChildSpec) (events : List Event) (e : Event) → IsLawfulHistory (empty_state flags specs) events → e.kind ≡ kind.Ticked
    → KillsEachLate (state_after (empty_state flags specs) events) e.reading (step (state_after (empty_state flags specs) events) e)
