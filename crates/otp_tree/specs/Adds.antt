-- Supervisors that are added to a tree. (own)
use Rattle.std.specs.Prelude.{◌≡◌, ◌⊎◌, ℕ, ⊤, List, Option}
use Rattle.otp_open.specs.Adds.{IsAnyOccupied, IsStrangerAt}
use Rattle.otp_open.specs.Plans.{IsLackingAt}
use Rattle.otp_open.specs.declared.plan.TablePlan.{TablePlan}
use Rattle.otp_spec.specs.Supervisor.{Supervisor}
use Rattle.otp_tree.specs.declared.adding.AddFault.{AddFault}
use Rattle.otp_tree.specs.declared.adding.AddFault.TheVariants as fault
use Rattle.otp_tree.specs.declared.adding.Unadded.{Unadded}

-- some place is occupied where that is the fault, of the plans that the name has
abbrev pub IsOccupiedOnly : (ℕ → Option Supervisor) → AddFault → Type 0
IsOccupiedOnly plans fault.Occupied = IsAnyOccupied plans
IsOccupiedOnly plans fault.OutOfMemory = ⊤
IsOccupiedOnly plans fault.TooManyTables = ⊤
IsOccupiedOnly plans (fault.NoBody table) = ⊤
IsOccupiedOnly plans (fault.WrongBody table) = ⊤

module _ {J S : Type 0} where
  -- the plan that is said to lack a body does, and the one that is said to have a supervisor of another tree for a child
  abbrev pub IsAddFault : List (TablePlan J S) → AddFault → Type 0
  IsAddFault plans (fault.NoBody table) = IsLackingAt plans table
  IsAddFault plans (fault.WrongBody table) = IsStrangerAt plans table
  IsAddFault plans fault.OutOfMemory = ⊤
  IsAddFault plans fault.TooManyTables = ⊤
  IsAddFault plans fault.Occupied = ⊤

  -- the plans come back, unless a place had a supervisor already
  abbrev pub IsGivenBack : List (TablePlan J S) → Unadded J S → Type 0
  IsGivenBack plans back = (back.fault ≡ fault.Occupied) ⊎ (back.plans.items ≡ plans)
