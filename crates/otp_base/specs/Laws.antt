-- What other flags and other specifications leave as it was.
use Rattle.std.specs.Prelude.{◌≡◌, ◌≤◌, ℕ, All, Bool, true, false, List, Some, count_by, map}
use Rattle.std.specs.List.{filter}
use Rattle.otp_spec.specs.declared.child.ChildSpec.{ChildSpec}
use Rattle.otp_spec.specs.declared.flags.SupFlags.{SupFlags}
use Rattle.otp_spec.specs.Flags.{is_simple}
use Rattle.otp_table.specs.declared.row.Row.{Row}
use Rattle.otp_table.specs.Rows.{is_undefined}
use Rattle.otp_window.specs.Period.{in_period, is_in_period}
use Rattle.otp_rules.specs.InOrder.{IsInOrder}
use Rattle.otp_rules.specs.Rate.{IsBounded}
use Rattle.otp_rules.specs.Slots.{AreSlotted}
use Rattle.otp_rules.specs.State.{State, is_over}
use Rattle.otp_base.specs.Change.{MayChange, changed, stamps_after}
use Rattle.otp_base.specs.Seats.{respecified}

-- a test of a child that asks for no specification, and that no child passes which has no process
pub record Spares (test : Row → Bool) : Type 0 where
  pub blind : (spec : ChildSpec) (row : Row) → test (respecified spec row) ≡ test row
  pub alive : (row : Row) → is_undefined row.state ≡ true → test row ≡ false

-- each such test is passed by as many children as before: so each child that has a process, or whose retry waits, keeps its
-- slot, its id, its state and its number, and no other child gets one
abbrev pub ChildrenStay : Type 0
ChildrenStay =
    (flags : SupFlags) (specs : List ChildSpec) (s : State) (test : Row → Bool)
    → MayChange flags specs s → Spares test
    → count_by test (changed flags specs s).rows ≡ count_by test s.rows

-- the children of a supervisor that runs are those of the specifications, in their order, but for dynamic ones
abbrev pub ChildrenFit : Type 0
ChildrenFit =
    (flags : SupFlags) (specs : List ChildSpec) (s : State)
    → is_simple flags.strategy ≡ false → is_over s.phase ≡ false
    → map (λ row. row.spec) (changed flags specs s).rows ≡ specs

-- a supervisor that is in order stays so: the laws of a process's life hold of it, for the numbers above those before
abbrev pub OrderStays : Type 0
OrderStays =
    (flags : SupFlags) (specs : List ChildSpec) (s : State) (next : ℕ)
    → MayChange flags specs s → IsInOrder next s → IsInOrder next (changed flags specs s)

-- the children have these specifications, in their order, and their ids
pub record AreOf (specs : List ChildSpec) (rows : List Row) : Type 0 where
  pub planned : map (λ row. row.spec) rows ≡ specs
  pub named : All (λ row. row.id ≡ Some row.spec.id) rows

-- no two children have one slot, and each slot is below the limit, where it was so
abbrev pub SlotsStay : Type 0
SlotsStay =
    (flags : SupFlags) (specs : List ChildSpec) (s : State)
    → MayChange flags specs s → AreSlotted s.rows → AreSlotted (changed flags specs s).rows

-- where a supervisor that runs gets what it has, nothing changes but its restarts
abbrev pub SameStays : Type 0
SameStays =
    (s : State)
    → MayChange s.flags s.specs s → is_simple s.flags.strategy ≡ false → is_over s.phase ≡ false → AreOf s.specs s.rows
    → ◌≡◌ {A = State} (changed s.flags s.specs s) (record s { stamps = stamps_after s.flags s.last s.stamps })

-- of its restarts those alone are dropped that lie before the period, if no more lie in it than the intensity
abbrev pub StampsStay : Type 0
StampsStay =
    (flags : SupFlags) (last : ℕ) (stamps : List ℕ)
    → in_period flags.period stamps last ≤ flags.intensity
    → stamps_after flags last stamps ≡ filter (is_in_period flags.period last) stamps

-- in no period more of the restarts are left than the intensity, wherever it ends
abbrev pub StampsFew : Type 0
StampsFew = (flags : SupFlags) (last : ℕ) (stamps : List ℕ) → IsBounded flags (stamps_after flags last stamps)
