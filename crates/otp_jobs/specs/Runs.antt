-- What comes of a run (own).
use Rattle.std.specs.Prelude.{◌≡◌, ℕ, Bool, ◌-◌, ◌^◌, ◌<◌, ⊤, List, ◌++◌, length, map, min}
use Rattle.otp_core.specs.View.{state_of}
use Rattle.otp_rules.specs.Needs.{numbers_of}
use Rattle.otp_close.specs.Reports.{last_reason}
use Rattle.otp_close.specs.Closes.{HaveBegun, IsReportOf}
use Rattle.otp_close.specs.declared.closing.CloseFault.TheVariants as close
use Rattle.otp_file.specs.Trees.{Table}
use Rattle.otp_open.specs.Plans.{IsNotBare}
use Rattle.otp_open.specs.declared.opening.SystemFault.{SystemFault}
use Rattle.otp_open.specs.declared.opening.SystemFault.TheVariants as unopened
use Rattle.otp_close.specs.declared.report.report.TableReport.{TableReport}
use Rattle.otp_spec.specs.declared.limits.TheConstants.{MAX_TABLES}
use Rattle.otp_tree.specs.declared.whole.CountedRun.{CountedRun}
use Rattle.otp_tree.specs.declared.whole.RunFault.{RunFault}
use Rattle.otp_tree.specs.declared.whole.RunFault.TheVariants as run
use Rattle.otp_file.specs.declared.roles.fault.PlanFault.{PlanFault}
use Rattle.otp_file.specs.declared.roles.fault.PlanFault.TheVariants as plan
use Rattle.otp_jobs.specs.Plans.{supervisors_of}
use Rattle.otp_jobs.specs.Reports.{counts_text, report_text}
use Rattle.otp_jobs.specs.declared.report.TableLine.{TableLine}
use Rattle.otp_jobs.specs.declared.body.Calm.{Calm}
use Rattle.otp_jobs.specs.declared.worker.WorkedJob.{WorkedJob}
use Rattle.otp_jobs.specs.declared.run.FileRunFault.{FileRunFault}
use Rattle.otp_jobs.specs.declared.run.FileRunFault.TheVariants.{OutOfMemory, UnknownStart, WrongBody, TooManyTables, Mismatch, Misplaced}

-- why a tree is not run that can't be planned
abbrev pub run_fault : PlanFault → FileRunFault
run_fault plan.OutOfMemory = OutOfMemory
run_fault plan.TooManyTables = TooManyTables
run_fault (plan.UnknownStart name) = UnknownStart name
run_fault plan.WrongBody = WrongBody

-- why a tree was not opened of which no child lacks its body
abbrev pub IsFaultOfOpening : SystemFault → FileRunFault → Type 0
IsFaultOfOpening unopened.OutOfMemory fault = fault ≡ OutOfMemory
IsFaultOfOpening (unopened.NoBody table) fault = ⊥

module _ {J S : Type 0} where
  -- no child is said to have no body
  abbrev pub IsNoneBare : RunFault J S → Type 0
  IsNoneBare (run.Open back) = IsNotBare back.fault
  IsNoneBare (run.Close why) = ⊤

  -- why a tree that was planned has no report: it was not opened or not closed, or its report tells of a mismatch. No child lacks its
  -- body, and no part of the tree is missing
  abbrev pub IsFaultOf : RunFault J S → FileRunFault → Type 0
  IsFaultOf (run.Open back) fault = IsFaultOfOpening back.fault fault
  IsFaultOf (run.Close (close.OutOfMemory back)) fault = fault ≡ OutOfMemory
  IsFaultOf (run.Close (close.Missing back)) fault = ⊥
  IsFaultOf (run.Close (close.Misplaced back found)) fault = fault ≡ Misplaced
  IsFaultOf (run.Close (close.Mismatch m report)) fault = fault ≡ Mismatch

-- a fault of the starts that the tree names
abbrev pub IsOfRun : FileRunFault → Type 0
IsOfRun (UnknownStart _) = ⊤
IsOfRun WrongBody = ⊤
IsOfRun _ = ⊥

-- a fault that is none of the starts
abbrev pub IsNotPlanned : FileRunFault → Type 0
IsNotPlanned OutOfMemory = ⊤
IsNotPlanned Mismatch = ⊤
IsNotPlanned Misplaced = ⊤
IsNotPlanned _ = ⊥

-- a tree is said to have too many supervisors only where it has more than there can be
abbrev pub IsTooManyOnly : ℕ → FileRunFault → Type 0
IsTooManyOnly tables TooManyTables = MAX_TABLES < tables
IsTooManyOnly tables _ = ⊤

-- what is printed of a supervisor: how many starts its history has, how many restarts since it was started last, as far as a
-- number goes, and the reason of its last end
abbrev pub line_of : TableReport → TableLine
line_of table = record {
  starts = length (numbers_of table.core.history);
  restarts = min (length (state_of table.core).stamps) (2 ^ 64 - 1);
  end = last_reason (state_of table.core);
}

-- what is printed of a run: the counts where they are wanted, a line for each supervisor, and how many processes are left
abbrev pub run_text : Bool → CountedRun WorkedJob Calm → List ℕ
run_text counted run = counts_text counted run.counts.items ++ report_text (map line_of run.report.tables.items) run.report.live

-- counts of the supervisors with these tables, and their report
pub record IsRunOf (tables : List Table) (run : CountedRun WorkedJob Calm) : Type 0 where
  pub counts : length run.counts.items ≡ length tables
  pub report : IsReportOf (length tables) run.report
  -- each core began with the flags and the specifications of the table with its number, never opened
  pub plans : HaveBegun (supervisors_of tables) run.report.tables.items

-- the report of these supervisors was appended, behind their counts where they are wanted
abbrev pub Reports : Bool → List Table → List ℕ → List ℕ → Type 0
Reports counted tables old new = (run : CountedRun WorkedJob Calm) × (IsRunOf tables run × (new ≡ old ++ run_text counted run))
