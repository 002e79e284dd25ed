-- A supervisor of a tree that is driven, with its events and its orders, and how they go on (own).
use Rattle.std.specs.Prelude.{◌≡◌, ℕ, ◌+◌, ◌<◌, ◌≤◌, ◌⊎◌, Bool, List, [], ◌∷◌, ◌++◌, Option, Some, None, length, max, nat_lt, position, slice_get, unwrap_or, if◌then◌else◌}
use Rattle.otp_core.specs.Happened.{number_after}
use Rattle.otp_core.specs.declared.cut.TheConstants.{MAX_EVENTS_IN_ALL, MAX_KEPT_LINES}
use Rattle.otp_core.specs.declared.happening.EventFault.{EventFault}
use Rattle.otp_core.specs.declared.happening.EventFault.TheVariants as event
use Rattle.otp_driver.specs.declared.driven.fault.DriveFault.{DriveFault}
use Rattle.otp_driver.specs.declared.driven.fault.DriveFault.TheVariants.{OrdersWait, OutOfMemory, Spent}
use Rattle.otp_rules.specs.declared.event.Effect.{Effect}
use Rattle.otp_rules.specs.declared.event.Event.{Event}
use Rattle.otp_rules.specs.declared.event.Kind.{Kind}
use Rattle.otp_rules.specs.Counts.{lines_told}
use Rattle.otp_rules.specs.Needs.{last_number, needs_number}
use Rattle.otp_rules.specs.Run.{empty_state, state_after}
use Rattle.otp_rules.specs.State.{State}
use Rattle.otp_rules.specs.Step.{step}
use Rattle.otp_spec.specs.declared.child.ChildSpec.{ChildSpec}
use Rattle.otp_spec.specs.declared.flags.SupFlags.{SupFlags}
use Rattle.otp_spec.specs.declared.limits.TheConstants.{MAX_EVENTS, MAX_READING}
use Rattle.otp_table.specs.Rows.{has_process, row_has}
use Rattle.otp_table.specs.declared.row.Row.{Row}

-- a supervisor: what it was before any event, and the greatest number that a process had then; all its events since; the orders
-- that it gave, but for those that were forgotten since all had been taken, and how many of them, the first, were taken
pub record Member : Type 0 where
  pub base : State
  pub given : ℕ
  pub history : List Event
  pub effects : List Effect
  pub taken : ℕ

-- the supervisor after its events: nothing else is known of it
abbrev pub state_in : Member → State
state_in m = state_after m.base m.history

abbrev pub row_in : List Row → Option ℕ → Option Row
row_in rows None = None
row_in rows (Some place) = slice_get rows place

-- the child that has this process
unfoldable pub row_at : List Row → ℕ → Option Row
row_at rows number = row_in rows (position (row_has (has_process number)) rows)

-- it was never opened
abbrev pub unopened : SupFlags → List ChildSpec → Member
unopened flags specs = record { base = empty_state flags specs; given = 0; history = []; effects = []; taken = 0 }

-- the greatest number that a child's process had
abbrev pub greatest : Member → ℕ
greatest m = max m.given (last_number m.history)

-- an event of this kind happens to a supervisor at this reading of the clock: its orders are those of the rules, behind those
-- that are there. Where a process is started it gets the next number after the last one
abbrev pub Happens : ℕ → ℕ → Kind → Member → Member → ℕ → Type 0
Happens reading last k old new after =
    (number : Option ℕ) × (number ≡ number_after last (needs_number (state_in old) reading k)) × (after ≡ unwrap_or number last)
    × (new ≡ record old {
      history = old.history ++ record { reading = reading; number = number; kind = k } ∷ [];
      effects = old.effects ++ (step (state_in old) (record { reading = reading; number = number; kind = k })).orders;
    })

-- there were as many events, or the answers list as many children, as a supervisor keeps while orders wait
abbrev pub IsMany : State → List Event → Type 0
IsMany base history = (MAX_EVENTS ≤ length history) ⊎ (MAX_KEPT_LINES ≤ lines_told (state_after base history).replies)

-- no room could be made for an event more: orders wait to be taken, or there were as many events as there may be in all
abbrev pub HasNoRoom : State → List Event → List Effect → DriveFault → Type 0
HasNoRoom base history effects why =
    ((why ≡ OrdersWait) × ¬ (effects ≡ []) × IsMany base history) ⊎ ((why ≡ Spent) × (MAX_EVENTS_IN_ALL ≤ length history))

-- why a core takes no event, as the driver says it
abbrev pub fault_of : EventFault → DriveFault
fault_of event.OutOfMemory = OutOfMemory
fault_of event.OrdersWait = OrdersWait
fault_of event.HistoryFull = Spent

-- the numbers of processes are used up: the last one of the tree, or one of the supervisor that is greater than it
abbrev pub IsSpent : ℕ → Member → Type 0
IsSpent last m = (MAX_READING ≤ last) ⊎ (last < greatest m)

-- why a supervisor takes no event: memory was refused, or one of these
abbrev pub IsRefused : ℕ → Member → DriveFault → Type 0
IsRefused last m why = (why ≡ OutOfMemory) ⊎ (((why ≡ Spent) × IsSpent last m) ⊎ HasNoRoom m.base m.history m.effects why)

-- an order was not taken
abbrev pub has_order : Member → Bool
has_order m = nat_lt m.taken (length m.effects)

-- the next order is taken; after the last one all are forgotten
unfoldable pub passed : Member → Member
passed m = if nat_lt (m.taken + 1) (length m.effects) then record m { taken = m.taken + 1 } else record m { effects = []; taken = 0 }
