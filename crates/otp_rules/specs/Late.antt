-- What an event that ticks does: it kills the children whose deadline has come, and nothing else (Supervisor Behaviour,
-- Child Specification, shutdown).
use Rattle.std.specs.Prelude.{◌≡◌, ℕ, ◌≤◌, List, Some, All, Contains, max}
use Rattle.otp_spec.specs.declared.child.ChildSpec.{ChildSpec}
use Rattle.otp_spec.specs.declared.flags.SupFlags.{SupFlags}
use Rattle.otp_table.specs.declared.row.Row.{Row}
use Rattle.otp_table.specs.declared.row.RowState.TheVariants.{Asked}
use Rattle.otp_rules.specs.declared.event.Effect.{Effect}
use Rattle.otp_rules.specs.declared.event.Effect.TheVariants as effect
use Rattle.otp_rules.specs.declared.event.Event.{Event}
use Rattle.otp_rules.specs.declared.event.Kind.TheVariants as kind
use Rattle.otp_rules.specs.State.{State}
use Rattle.otp_rules.specs.Step.{step}
use Rattle.otp_rules.specs.Run.{empty_state, state_after}
use Rattle.otp_rules.specs.Needs.{IsLawfulHistory}
use Rattle.otp_rules.specs.Progress.{Progress}
use Rattle.otp_rules.specs.Fit.{IsFit, IsLawfulFrom}
use Rattle.otp_rules.specs.InOrder.{Awaits}

-- a child's process was asked to shut down until a time, and at this reading of the clock that has come
abbrev pub IsDueToDie : State → ℕ → Row → ℕ → Type 0
IsDueToDie s reading row p = Contains s.rows row × (deadline : ℕ) × (row.state ≡ Asked p (Some deadline)) × (deadline ≤ max reading s.last)

-- the order kills such a child
abbrev pub KillsLate : State → ℕ → Effect → Type 0
KillsLate s reading (effect.Kill id p) = (row : Row) × (row.id ≡ id) × IsDueToDie s reading row p
KillsLate s reading _ = ⊥

-- from each state that is fit and whose open work awaits an answer, each order of an event that ticks is such a kill
abbrev pub TicksKillLate : Type 0
TicksKillLate =
    (m : ℕ) (s : State) (g : Progress) (events : List Event) (e : Event) → IsFit m s g → Awaits s → IsLawfulFrom m s events → e.kind ≡ kind.Ticked
    → All (KillsLate (state_after s events) e.reading) (step (state_after s events) e).orders

-- it is so from the state that was never opened on
abbrev pub TicksKillLateFromEmpty : Type 0
TicksKillLateFromEmpty =
    (flags : SupFlags) (specs : List ChildSpec) (events : List Event) (e : Event) → IsLawfulHistory (empty_state flags specs) events → e.kind ≡ kind.Ticked
    → All (KillsLate (state_after (empty_state flags specs) events) e.reading) (step (state_after (empty_state flags specs) events) e).orders
