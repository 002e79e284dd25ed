-- The plans of a tree, by their places in the list, and why none is opened of them. (own)
use Rattle.std.specs.Prelude.{◌≡◌, ◌<◌, ◌≤◌, ℕ, ⊤, List, Option, Some, None, MatchOption, length, slice_get, take}
use Rattle.otp_bodies.specs.Bodies.{count_opened}
use Rattle.otp_run.specs.Lists.{AllAt}
use Rattle.otp_spec.specs.Supervisor.{Supervisor}
use Rattle.otp_sup.specs.Plans.{IsPlanned}
use Rattle.otp_open.specs.declared.opening.SystemFault.{SystemFault}
use Rattle.otp_open.specs.declared.opening.SystemFault.TheVariants as fault
use Rattle.otp_open.specs.declared.plan.TablePlan.{TablePlan}

-- there are fewer bodies than children that an opening makes
abbrev pub Lacks : ℕ → Supervisor → Type 0
Lacks bodies plan = bodies < count_opened plan.flags plan.specs

abbrev pub Suffice : ℕ → Supervisor → Type 0
Suffice bodies plan = count_opened plan.flags plan.specs ≤ bodies

-- no plan is said to lack a body
abbrev pub IsNotBare : SystemFault → Type 0
IsNotBare fault.OutOfMemory = ⊤
IsNotBare (fault.NoBody table) = ⊥

module _ {J S : Type 0} where
  abbrev pub supervisor_in : Option (TablePlan J S) → Option Supervisor
  supervisor_in (Some plan) = Some plan.supervisor
  supervisor_in None = None

  -- the flags and the specifications that the supervisor of each number is opened with; none where there is no plan for it
  abbrev pub plans_of : List (TablePlan J S) → ℕ → Option Supervisor
  plans_of plans k = supervisor_in (slice_get plans k)

  -- what the first so many plans say, by number; the others are of places that are spare
  abbrev pub first_plans : ℕ → List (TablePlan J S) → ℕ → Option Supervisor
  first_plans count plans = plans_of (take count plans)

  -- of each of these plans the name has the flags and the specifications, or none
  abbrev pub ArePlanned : (ℕ → Option Supervisor) → List (TablePlan J S) → Type 0
  ArePlanned names plans = AllAt (λ k plan. IsPlanned (names k) plan.supervisor) plans

  -- the plan has fewer bodies than an opening makes children
  abbrev pub LacksBody : TablePlan J S → Type 0
  LacksBody plan = Lacks (length plan.bodies.items) plan.supervisor

  -- it has one for each
  abbrev pub HasBodies : TablePlan J S → Type 0
  HasBodies plan = Suffice (length plan.bodies.items) plan.supervisor

  -- the plan at this place lacks a body
  abbrev pub IsLackingAt : List (TablePlan J S) → ℕ → Type 0
  IsLackingAt plans table = MatchOption (slice_get plans table) ⊥ LacksBody

  -- why no tree is opened of these plans: memory was refused, or the plan at this place lacks a body
  abbrev pub IsOpenFault : List (TablePlan J S) → SystemFault → Type 0
  IsOpenFault plans fault.OutOfMemory = ⊤
  IsOpenFault plans (fault.NoBody table) = IsLackingAt plans table

  -- each plan has its bodies
  abbrev pub HaveBodies : List (TablePlan J S) → Type 0
  HaveBodies plans = AllAt (λ _ plan. HasBodies plan) plans
