-- What comes of a tree that was drawn up, and what comes back of one that was not run. (own)
use Rattle.std.specs.Prelude.{◌≡◌, ◌<◌, ◌⊎◌, ⊤, ℕ, Option, Some, None, map, slice_get}
use Rattle.otp_draft.specs.Faults.{IsOfDraft, finish_fault}
use Rattle.otp_draft.specs.Plans.{Planned, numbered}
use Rattle.otp_draft.specs.Trees.{Tree, plans_of, size}
use Rattle.otp_draft.specs.declared.fault.Refused.{Refused}
use Rattle.otp_close.specs.Closes.{HaveBegun, IsReportOf}
use Rattle.otp_close.specs.declared.report.report.Report.{Report}
use Rattle.otp_run.specs.Rule.{all_parts}
use Rattle.otp_spec.specs.Supervisor.{Supervisor}
use Rattle.otp_tree.specs.Closes.{IsRunMismatchOnly, IsRunNoneMissing}
use Rattle.otp_tree.specs.declared.adding.AddFault.{AddFault}
use Rattle.otp_tree.specs.declared.adding.AddFault.TheVariants as add
use Rattle.otp_tree.specs.declared.whole.RunFault.{RunFault}
use Rattle.otp_tree.specs.declared.whole.RunFault.TheVariants as run
use Rattle.otp_open.specs.Plans.{IsNotBare}
use Rattle.otp_open.specs.declared.plan.TablePlan.{TablePlan}
use Rattle.otp.specs.declared.adding.NotAdded.{NotAdded}
use Rattle.otp.specs.declared.adding.NotAdded.TheVariants as not_added
use Rattle.otp.specs.declared.fault.Unrun.{Unrun}
use Rattle.otp.specs.declared.fault.Unrun.TheVariants as unrun

-- no child is said to have no body
abbrev pub IsAddNoneBare : AddFault → Type 0
IsAddNoneBare (add.NoBody table) = ⊥
IsAddNoneBare _ = ⊤

module _ {J S : Type 0} where
  -- what a plan says
  abbrev pub seen_in_tree : TablePlan J S → Planned J S
  seen_in_tree plan = record { supervisor = plan.supervisor; bodies = plan.bodies.items }

  abbrev pub supervisor_in : Option (Planned J S) → Option Supervisor
  supervisor_in (Some plan) = Some plan.supervisor
  supervisor_in None = None

  -- the flags and the specifications of the supervisor with each number, which is its place in the walk over the tree
  abbrev pub supervisors_of : Tree J S → ℕ → Option Supervisor
  supervisors_of root number = supervisor_in (slice_get (numbered 0 (plans_of root)) number)

  -- no child is said to have no body
  abbrev pub IsRunNoneBare : RunFault J S → Type 0
  IsRunNoneBare (run.Open back) = IsNotBare back.fault
  IsRunNoneBare (run.Close why) = ⊤

  -- where it was not opened all comes back that it is made of: the flags and specifications of each supervisor, and what each child runs
  abbrev pub HasPlansBack : Tree J S → RunFault J S → Type 0
  HasPlansBack root (run.Open back) = map seen_in_tree back.plans.items ≡ numbered 0 (plans_of root)
  HasPlansBack root (run.Close why) = ⊤

  -- the tree comes back, with the first fault of its root, or because memory was refused
  pub record IsUnfinished (root : Tree J S) (back : Refused (Tree J S)) : Type 0 where
    pub given : back.given ≡ root
    pub why : IsOfDraft back.fault → finish_fault root ≡ Some back.fault

  -- the tree comes back, but where its life had begun. Where it was only planned its plans come back. Memory was refused then, or a
  -- mismatch was found: each child of a draft has its body, and nobody else has a part of the tree
  abbrev pub IsBack : ℕ → Tree J S → Unrun J S → Type 0
  IsBack hands root (unrun.Hands given) = (given ≡ root) × ((hands < 1) ⊎ (all_parts < hands))
  IsBack hands root (unrun.Unfinished back) = IsUnfinished root back
  IsBack hands root (unrun.Run why) = (finish_fault root ≡ None) × (IsRunMismatchOnly why × (IsRunNoneMissing why × (IsRunNoneBare why × HasPlansBack root why)))

  -- a tree that was not added to one that runs comes back: as it was drawn up where it wasn't finished, else as its plans, unless a
  -- place had a supervisor already
  abbrev pub IsNotAdded : Tree J S → NotAdded J S → Type 0
  IsNotAdded tree (not_added.Unfinished back) = IsUnfinished tree back
  IsNotAdded tree (not_added.Unadded back) =
      IsAddNoneBare back.fault × ((back.fault ≡ add.Occupied) ⊎ (map seen_in_tree back.plans.items ≡ numbered 0 (plans_of tree)))
  IsNotAdded tree (not_added.Over plans) = ⊥

  -- why a caller added no supervisors. What a hand did for it lay under a lock, and is known by its type alone
  abbrev pub IsNotGrown : Tree J S → NotAdded J S → Type 0
  IsNotGrown tree (not_added.Unfinished back) = IsUnfinished tree back
  IsNotGrown tree (not_added.Unadded back) = ⊤
  IsNotGrown tree (not_added.Over plans) = ⊤

-- the report of a run of a tree that was drawn up
pub record IsRunOfDraft {J S : Type 0} (root : Tree J S) (report : Report J S) : Type 0 where
  -- it has each supervisor of the tree, in the order of its paths, and is one that `close_tree` can give
  pub whole : IsReportOf (size root) report
  -- each supervisor's core began with the flags and the specifications that the tree has under its number, never opened
  pub begun : HaveBegun (supervisors_of root) report.tables.items
  -- the draft had no fault
  pub lawful : finish_fault root ≡ None
