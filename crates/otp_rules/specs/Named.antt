-- The processes that orders name.
use Rattle.std.specs.Prelude.{◌≡◌, ℕ, ◌++◌, List, Option, Some, None, All, Contains, true}
use Rattle.otp_spec.specs.declared.child.ChildSpec.{ChildSpec}
use Rattle.otp_spec.specs.declared.flags.SupFlags.{SupFlags}
use Rattle.otp_table.specs.declared.row.Row.{Row}
use Rattle.otp_table.specs.Rows.{has_process, slot_of}
use Rattle.otp_rules.specs.declared.event.Effect.{Effect}
use Rattle.otp_rules.specs.declared.event.Effect.TheVariants as effect
use Rattle.otp_rules.specs.declared.event.Event.{Event}
use Rattle.otp_rules.specs.State.{State}
use Rattle.otp_rules.specs.Step.{step}
use Rattle.otp_rules.specs.Run.{empty_state, orders_of, state_after}
use Rattle.otp_rules.specs.Needs.{IsLawfulHistory, numbers_of}
use Rattle.otp_rules.specs.Progress.{Progress}
use Rattle.otp_rules.specs.Fit.{IsFit}

-- the process that an order names, if it names one
abbrev pub named_by : Effect → Option ℕ
named_by (effect.Start _ p) = Some p
named_by (effect.Ask _ p) = Some p
named_by (effect.Kill _ p) = Some p
named_by _ = None

-- a process that the order names is one of these
abbrev pub NamesOneOf : List ℕ → Effect → Type 0
NamesOneOf numbers order = (p : ℕ) → named_by order ≡ Some p → Contains numbers p

-- the process of each row is one of these
abbrev pub AreAmong : List ℕ → List Row → Type 0
AreAmong numbers rows = All (λ row. (p : ℕ) → has_process p row.state ≡ true → Contains numbers p) rows

-- each order of a lawful history names a process that it started, or one that was given before
abbrev pub OrdersNumberedFrom : Type 0
OrdersNumberedFrom =
    (s : State) (given : List ℕ) (events : List Event) → IsLawfulHistory s events → AreAmong given s.rows → All (NamesOneOf (given ++ numbers_of events)) (orders_of s events)

-- from the first event on, one that it started
abbrev pub OrdersNumbered : Type 0
OrdersNumbered =
    (flags : SupFlags) (specs : List ChildSpec) (events : List Event) → IsLawfulHistory (empty_state flags specs) events
    → All (NamesOneOf (numbers_of events)) (orders_of (empty_state flags specs) events)

-- a process that the order names is that of a row, and has its slot
abbrev pub NamesRowOf : List Row → Effect → Type 0
NamesRowOf rows order = (p : ℕ) → named_by order ≡ Some p → (row : Row) × Contains rows row × (has_process p row.state ≡ true) × (slot_of p rows ≡ Some row.slot)

-- each order of an event names a process that a row has after the event, from each state that is fit
abbrev pub OrdersNameRowsFrom : Type 0
OrdersNameRowsFrom = (next : ℕ) (s : State) (g : Progress) (e : Event) → IsFit next s g → All (NamesRowOf (step s e).state.rows) (step s e).orders

-- so it is after each lawful history
abbrev pub OrdersNameRows : Type 0
OrdersNameRows =
    (flags : SupFlags) (specs : List ChildSpec) (events : List Event) (e : Event) → IsLawfulHistory (empty_state flags specs) events
    → All (NamesRowOf (step (state_after (empty_state flags specs) events) e).state.rows) (step (state_after (empty_state flags specs) events) e).orders
