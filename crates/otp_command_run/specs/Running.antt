-- What a run of a tree writes (own).
use Rattle.std.specs.Prelude.{◌≡◌, ◌⊎◌, ◌<◌, ℕ, Bool, true, false, List, Option, Some, None, Ok, [], length}
use Rattle.std.specs.Io.KnownBytes.{Appends}
use Rattle.otp_file.specs.Files.{Says}
use Rattle.otp_file.specs.Trees.{Table, Tree, tables_of}
use Rattle.otp_file.specs.RolesFaults.{plan_fault}
use Rattle.otp_jobs.specs.Plans.{supervisors_of}
use Rattle.otp_jobs.specs.Runs.{IsRunOf, run_text}
use Rattle.otp_file.specs.declared.fault.TreeFault.TheVariants as fault
use Rattle.otp_jobs.specs.declared.body.Calm.{Calm}
use Rattle.otp_jobs.specs.declared.run.FileRunFault.{FileRunFault}
use Rattle.otp_jobs.specs.declared.run.FileRunFault.TheVariants as run
use Rattle.otp_jobs.specs.declared.worker.WorkedJob.{WorkedJob}
use Rattle.otp_sim.specs.Devices.{Written}
use Rattle.otp_check.specs.Unfit.{HasStarts, IsRunnable}
use Rattle.otp_command_run.specs.Object.{TellsRun}
use Rattle.otp_jobs.specs.Serves.{served_text}
use Rattle.otp_jobs.specs.declared.serving.patient.PatientJob.{PatientJob}
use Rattle.otp_close.specs.Closes.{HaveBegun, IsReportOf}
use Rattle.otp_close.specs.declared.report.report.Report.{Report}
use Rattle.otp_close.specs.declared.report.report.TableReport.{TableReport}
use Rattle.otp_live.specs.declared.span.Span.{Span}
use Rattle.otp_tree.specs.declared.whole.CountedRun.{CountedRun}
use Rattle.otp_file.specs.declared.roles.fault.PlanFault.TheVariants as plan
use Rattle.otp_check.specs.Checks.{IsFirstFault}
use Rattle.otp_commands.specs.Trees.{TreeRuns}
use Rattle.otp_exit.specs.Devices.{HasTree}
use Rattle.otp_exit.specs.Told.{IsUnreadEnd}
use Rattle.otp_cli.specs.declared.words.Serving.{Serving}
use Rattle.otp_exit.specs.declared.ending.ProgramEnd.{ProgramEnd}
use Rattle.otp_exit.specs.declared.ending.ProgramEnd.TheVariants.{Done, TreeRefused, UnknownStart, WrongBody, CloseMismatch, CloseMissing, NotFinished, OutputFailed, OutOfMemory}

-- what is written of a run: this text, or an object of JSON with the name of the file
abbrev pub IsSaid : Bool → List ℕ → List ℕ → List TableReport → ℕ → List ℕ → List ℕ → Type 0
IsSaid false name file tables live plain text = text ≡ plain
IsSaid true name file tables live plain text = (tree : Tree) × (Says file (Ok tree) × TellsRun name tree tables live [] text)

-- a run of the supervisors with these tables, and its report, behind their counts where they are wanted; or the object of it
abbrev pub HasReport : Bool → List ℕ → List ℕ → Bool → List Table → CountedRun WorkedJob Calm → Option (List ℕ) → Option (List ℕ) → Type 0
HasReport is_json name file counted tables run old new =
    IsRunOf tables run × ((text : List ℕ) × (IsSaid is_json name file run.report.tables.items run.report.live (run_text counted run) text × Appends old new text))

-- the tree of a file was run to an end of this kind, and its report written
abbrev pub HasRun : (ℕ → Type 0) → Bool → List ℕ → Bool → List ℕ → Written → Written → Type 0
HasRun Left is_json name counted file old new =
    (tree : Tree) × (Says file (Ok tree) × ((plan_fault (tables_of tree) ≡ None)
    × ((run : CountedRun WorkedJob Calm) × (HasReport is_json name file counted (tables_of tree) run old.bytes new.bytes × Left run.report.live))))

-- a tree was not run, or its report could not be made or written
abbrev pub IsNotRun : ProgramEnd → List ℕ → Written → Written → Type 0
IsNotRun (TreeRefused why) file old new = (new ≡ old) × IsFirstFault why file
IsNotRun (UnknownStart name) file old new = (new ≡ old) × HasStarts file (plan.UnknownStart name)
IsNotRun WrongBody file old new = (new ≡ old) × HasStarts file plan.WrongBody
IsNotRun CloseMismatch file old new = (new ≡ old) × HasTree file
IsNotRun CloseMissing file old new = (new ≡ old) × HasTree file
IsNotRun OutputFailed file old new = IsRunnable file × (old.failures < new.failures)
IsNotRun OutOfMemory file old new = new ≡ old
IsNotRun _ file old new = ⊥

-- a tree was run, and its report written; or it was not. It is finished exactly where no process is left
abbrev pub IsTreeRun : Bool → List ℕ → Bool → ProgramEnd → List ℕ → Written → Written → Type 0
IsTreeRun is_json name counted Done file old new = HasRun (λ live. live ≡ 0) is_json name counted file old new
IsTreeRun is_json name counted NotFinished file old new = HasRun (λ live. ¬ (live ≡ 0)) is_json name counted file old new
IsTreeRun is_json name counted ending file old new = IsNotRun ending file old new

-- how long a tree is served, and how long its stop may take, where that was asked for
abbrev pub span_of : Serving → Span
span_of serving = record { stop = Some serving.time; grace = serving.grace }

-- the report of a tree of the supervisors with these tables that was served for a time, or the object of it
abbrev pub HasServedReport : Bool → List ℕ → List ℕ → List Table → Report PatientJob Calm → Option (List ℕ) → Option (List ℕ) → Type 0
HasServedReport is_json name file tables report old new =
    IsReportOf (length tables) report × (HaveBegun (supervisors_of tables) report.tables.items × ((text : List ℕ) × (IsSaid is_json name file report.tables.items report.live (served_text report) text × Appends old new text)))

-- the tree of a file was served to an end of this kind, and its report written
abbrev pub HasServed : (ℕ → Type 0) → Bool → List ℕ → List ℕ → Written → Written → Type 0
HasServed Left is_json name file old new =
    (tree : Tree) × (Says file (Ok tree) × ((plan_fault (tables_of tree) ≡ None)
    × ((report : Report PatientJob Calm) × (HasServedReport is_json name file (tables_of tree) report old.bytes new.bytes × Left report.live))))

-- a tree was served for a time, and its report written; or it was not. It is finished exactly where no process is left
abbrev pub IsTreeServed : Bool → List ℕ → ProgramEnd → List ℕ → Written → Written → Type 0
IsTreeServed is_json name Done file old new = HasServed (λ live. live ≡ 0) is_json name file old new
IsTreeServed is_json name NotFinished file old new = HasServed (λ live. ¬ (live ≡ 0)) is_json name file old new
IsTreeServed is_json name ending file old new = IsNotRun ending file old new

-- how a run ends that has left so many processes
abbrev pub IsEndOfRun : ℕ → ProgramEnd → Type 0
IsEndOfRun live ending = ((ending ≡ Done) × (live ≡ 0)) ⊎ ((ending ≡ NotFinished) × (¬ (live ≡ 0)))

-- how the program ends that didn't run a tree
abbrev pub ending_of_run : FileRunFault → ProgramEnd
ending_of_run run.OutOfMemory = OutOfMemory
ending_of_run (run.UnknownStart name) = UnknownStart name
ending_of_run run.WrongBody = WrongBody
ending_of_run run.TooManyTables = TreeRefused fault.TooManyTables
ending_of_run run.Mismatch = CloseMismatch
ending_of_run run.Misplaced = CloseMissing

-- a run of the tree of a file whose bytes are known to be so: it can't be read, or it was run
abbrev pub RunsTree : (List ℕ → Type 0) → Bool → List ℕ → Bool → ProgramEnd → Written → Written → Type 0
RunsTree Holds is_json name counted ending old new =
    (IsUnreadEnd ending × (new ≡ old)) ⊎ ((file : List ℕ) × (Holds file × IsTreeRun is_json name counted ending file old new))

-- the tree of such a file was served for a time
abbrev pub ServesTree : (List ℕ → Type 0) → Bool → List ℕ → ProgramEnd → Written → Written → Type 0
ServesTree Holds is_json name ending old new =
    (IsUnreadEnd ending × (new ≡ old)) ⊎ ((file : List ℕ) × (Holds file × IsTreeServed is_json name ending file old new))

-- what the program with threads does with a tree
abbrev pub on_threads : TreeRuns
on_threads = record { by_turns = RunsTree; for_a_time = ServesTree }
