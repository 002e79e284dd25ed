-- What comes of a tree that is run whole: the report of its run, or why it has none. (own)
use Rattle.std.specs.Prelude.{ℕ, List, Option, length}
use Rattle.otp_close.specs.Closes.{HasTables, HaveBegun, IsReportOf}
use Rattle.otp_close.specs.declared.report.report.Report.{Report}
use Rattle.otp_open.specs.Plans.{HaveBodies, plans_of}
use Rattle.otp_open.specs.declared.plan.TablePlan.{TablePlan}
use Rattle.otp_spec.specs.Supervisor.{Supervisor}
use Rattle.otp_tree.specs.Closes.{IsRunMismatchOnly, IsRunNoneMissing, IsRunOpenFault}
use Rattle.otp_tree.specs.declared.whole.RunFault.{RunFault}

-- the report of a run with these plans, where each number has the plan that the tree's name has for it
pub record IsNamedRun {J S : Type 0} (named : ℕ → Option Supervisor) (tables : ℕ) (plans : List (TablePlan J S)) (report : Report J S) : Type 0 where
  -- it has so many supervisors, and is one that `close_tree` can give
  pub whole : IsReportOf tables report
  -- each core began as the supervisor of the plan with its number, never opened; one that was added as some supervisor
  pub begun : HaveBegun named report.tables.items
  -- each plan has a body for each child that an opening makes
  pub bodies : HaveBodies plans

-- the report of a run with these plans: it has each supervisor of theirs, in their order, and no other
abbrev pub IsRunOf : {J S : Type 0} → List (TablePlan J S) → Report J S → Type 0
IsRunOf plans report = IsNamedRun (plans_of plans) (length plans) plans report

-- the same of a tree with so many places, to which supervisors can be added
pub record IsGrownRun {J S : Type 0} (named : ℕ → Option Supervisor) (places : ℕ) (plans : List (TablePlan J S)) (report : Report J S) : Type 0 where
  -- it has each supervisor that the name has a plan for, and those that were added
  pub count : HasTables named places (length report.tables.items)
  pub run : IsNamedRun named (length report.tables.items) plans report

-- why there is no report of a run with these plans
pub record IsUnrun {J S : Type 0} (plans : List (TablePlan J S)) (why : RunFault J S) : Type 0 where
  -- a mismatch is that of an event of the report
  pub mismatch : IsRunMismatchOnly why
  -- all parts of the tree are there when it is closed, since nobody else has one
  pub missing : IsRunNoneMissing why
  -- where it was not opened a plan lacks a body, or memory was refused, and the plans come back as they were; else each has its bodies
  pub opened : IsRunOpenFault plans why
