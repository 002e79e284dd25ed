-- Places of a tree that have no supervisor yet. (own)
use Rattle.std.specs.Prelude.{◌≡◌, ℕ, List, [], ◌++◌, length}
use Rattle.otp_run.specs.Lists.{AllAt}
use Rattle.otp_spec.specs.Flags.{default_flags}
use Rattle.otp_spec.specs.Supervisor.{Supervisor}
use Rattle.otp_open.specs.declared.plan.TablePlan.{TablePlan}

-- nobody's plan: no children
abbrev pub no_plan : Supervisor
no_plan = record { flags = default_flags; specs = [] }

module _ {J S : Type 0} where
  abbrev pub IsSpare : TablePlan J S → Type 0
  IsSpare plan = plan.supervisor ≡ no_plan

  -- these plans, and behind them those of spare places, so many in all
  pub record ArePadded (places : ℕ) (plans all : List (TablePlan J S)) : Type 0 where
    pub spares : List (TablePlan J S)
    pub are : all ≡ plans ++ spares
    pub each : AllAt (λ _ plan. IsSpare plan) spares
    pub many : length all ≡ places
