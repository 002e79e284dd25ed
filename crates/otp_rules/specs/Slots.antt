-- The slots of the rows: each is one child's, and there are 256.
use Rattle.std.specs.Prelude.{◌≡◌, ◌↔◌, ℕ, None, ◌<◌, ◌≤◌, List, All, Contains, true, count_by, length}
use Rattle.otp_spec.specs.declared.child.ChildSpec.{ChildSpec}
use Rattle.otp_spec.specs.declared.limits.TheConstants.{MAX_CHILDREN}
use Rattle.otp_spec.specs.declared.flags.SupFlags.{SupFlags}
use Rattle.otp_table.specs.declared.row.Row.{Row}
use Rattle.otp_table.specs.Rows.{has_process, has_slot}
use Rattle.otp_rules.specs.declared.event.Event.{Event}
use Rattle.otp_rules.specs.State.{State}
use Rattle.otp_rules.specs.Fit.{IsDistinct}
use Rattle.otp_spec.specs.Supervisor.{supervisor_fault}
use Rattle.otp_rules.specs.Run.{empty_state, state_after}

-- each slot has one row at most, and lies below 256
pub record AreSlotted (rows : List Row) : Type 0 where
  pub one : (slot : ℕ) → count_by (has_slot slot) rows ≤ 1
  pub below : All (λ row. row.slot < MAX_CHILDREN) rows

-- this stays along every list of events, where there are at most 256 specifications
abbrev pub SlotsStayOwned : Type 0
SlotsStayOwned = (s : State) (events : List Event) → length s.specs ≤ MAX_CHILDREN → AreSlotted s.rows → AreSlotted (state_after s events).rows

-- it holds from the first event on, of each supervisor that may be opened
abbrev pub SlotsOwned : Type 0
SlotsOwned = (flags : SupFlags) (specs : List ChildSpec) (events : List Event) → supervisor_fault flags specs ≡ None → AreSlotted (state_after (empty_state flags specs) events).rows

-- of two rows with a process the slots are one exactly where the processes are: what is kept by slots is a process's own
abbrev pub SlotsTellProcesses : Type 0
SlotsTellProcesses =
    (s : State) (next : ℕ) → AreSlotted s.rows → IsDistinct next s
    → (a b : Row) (p q : ℕ) → Contains s.rows a → Contains s.rows b → has_process p a.state ≡ true → has_process q b.state ≡ true → (a.slot ≡ b.slot) ↔ (p ≡ q)
