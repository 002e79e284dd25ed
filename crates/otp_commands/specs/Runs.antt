-- What the program did to its input, its output and the standard error, by how it ended (own).
use Rattle.std.specs.Prelude.{◌≡◌, ◌⊎◌, ◌||◌, ℕ, ◌<◌, Bool, true, false, List, [], ◌∷◌, ◌++◌, Option, Ok}
use Rattle.std.specs.Io.KnownBytes.{Appends}
use Rattle.otp_file.specs.declared.fault.TreeFault.{TreeFault}
use Rattle.otp_file.specs.Files.{Says}
use Rattle.otp_file.specs.Trees.{Tree}
use Rattle.otp_sim.specs.Devices.{Devices, Written}
use Rattle.otp_sim.specs.declared.engine.SimEnd.{SimEnd}
use Rattle.otp_sim.specs.declared.engine.SimEnd.TheVariants as sim
use Rattle.otp_sim.specs.Runs.{Writes}
use Rattle.otp_sim.specs.Sim.{opened}
use Rattle.otp_check.specs.Checks.{IsFirstFault, remarked}
use Rattle.otp_check.specs.declared.finding.Finding.{Finding}
use Rattle.otp_commands.specs.Found.{Finds, IsPlain}
use Rattle.otp_commands.specs.Found as lint
use Rattle.otp_commands.specs.declared.lint.found.LintFinding.{LintFinding}
use Rattle.otp_file.specs.declared.roles.fault.PlanFault.{PlanFault}
use Rattle.otp_check.specs.Unfit.{HasStarts, IsRunnable}
use Rattle.otp_check.specs.Unfit as unfit
use Rattle.otp_check.specs.declared.starts.finding.StartFinding.{StartFinding}
use Rattle.otp_exit.specs.Devices.{Files, HasTree, IsUnread}
use Rattle.otp_exit.specs.Statuses.{status_of}
use Rattle.otp_exit.specs.Told.{IsSmall, Tells, TellsFirst, goes_on, worse}
use Rattle.otp_exit.specs.declared.ending.Unwritten.{Unwritten}
use Rattle.otp_exit.specs.declared.ending.ProgramEnd.{ProgramEnd}
use Rattle.otp_exit.specs.declared.ending.ProgramEnd.TheVariants.{Done, WordsRefused, NoCommand, WordNotText, FileAsCommand, TreeNotRead, FileNotRead, TreeRefused, FaultsFound, LineRefused, HistoryFull, InputFailed, OutputFailed, OutOfMemory, UnknownClock, NotATime, NeedsFor, CountsTurns, Refused}
use Rattle.otp_cli.specs.declared.words.Checking.{Checking}
use Rattle.otp_cli.specs.declared.words.Command.{Command}
use Rattle.otp_cli.specs.declared.words.Command.TheVariants as command
use Rattle.otp_commands.specs.Findings.{TellsFaults, TellsLawful, TellsRemarks, TellsUnread}
use Rattle.otp_commands.specs.Judged.{Judges}
use Rattle.otp_commands.specs.Trees.{TreeRuns}
use Rattle.otp_commands.specs.Used.{Uses, has_remarks}

-- the file says a tree, and its supervisor was played to this end
abbrev pub Played : SimEnd → List ℕ → Devices → Devices → Type 0
Played end file old new = (tree : Tree) × (Says file (Ok tree) × Writes end (opened tree.flags tree.specs) old new)

-- want of memory may end it before anything is read, and says nothing of the file
abbrev pub IsRun : ProgramEnd → List ℕ → Devices → Devices → Type 0
IsRun Done file old new = Played sim.Done file old new
IsRun (TreeRefused why) file old new = (new ≡ old) × IsFirstFault why file
IsRun (LineRefused line why) file old new = Played (sim.LineRefused line why) file old new
IsRun HistoryFull file old new = Played sim.HistoryFull file old new
IsRun InputFailed file old new = Played sim.InputFailed file old new
IsRun OutputFailed file old new = Played sim.OutputFailed file old new
IsRun OutOfMemory file old new = (new ≡ old) ⊎ Played sim.Memory file old new
IsRun _ file old new = ⊥

-- the run of a file whose bytes are known to be so: it can't be read, or it was played
abbrev pub Simulates : (List ℕ → Type 0) → ProgramEnd → Devices → Devices → Type 0
Simulates Holds ending old new =
    ((ending ≡ TreeNotRead) × (new ≡ old)) ⊎ ((ending ≡ OutOfMemory) × (new ≡ old))
    ⊎ ((file : List ℕ) × (Holds file × IsRun ending file old new))

-- the words alone are answered: nothing is read, and only a help that was asked for is written to the output
abbrev pub Answers : ProgramEnd → Devices → Devices → Type 0
Answers Done old new = IsUnread old new × (text : List ℕ) × Appends old.output.bytes new.output.bytes text
Answers WordsRefused old new = new ≡ old
Answers NoCommand old new = new ≡ old
Answers WordNotText old new = new ≡ old
Answers UnknownClock old new = new ≡ old
Answers NotATime old new = new ≡ old
Answers NeedsFor old new = new ≡ old
Answers CountsTurns old new = new ≡ old
Answers FileAsCommand old new = new ≡ old
Answers (Refused _) old new = new ≡ old
Answers OutputFailed old new = IsUnread old new × (old.output.failures < new.output.failures)
Answers OutOfMemory old new = new ≡ old
Answers _ old new = ⊥

-- a text of which this is known was written, and so it ends well; or the writer failed; or there is no memory for the text
abbrev pub IsWritten : (List ℕ → Type 0) → ProgramEnd → ProgramEnd → Written → Written → Type 0
IsWritten Tells well ending old new =
    ((ending ≡ well) × ((text : List ℕ) × (Tells text × Appends old.bytes new.bytes text)))
    ⊎ (((ending ≡ OutputFailed) × (old.failures < new.failures)) ⊎ ((ending ≡ OutOfMemory) × (new ≡ old)))

-- the file says a tree; and where its starts are checked too, it can be run
abbrev pub IsLawfulFor : Bool → List ℕ → Type 0
IsLawfulFor false file = HasTree file
IsLawfulFor true file = IsRunnable file

-- where remarks are wanted, there is none on the file's tree
abbrev pub IsPlainFor : Bool → List ℕ → Type 0
IsPlainFor false file = Unit {0}
IsPlainFor true file = IsPlain file

-- what was written of a lawful file
abbrev pub WroteLawful : Checking → List ℕ → Option (List ℕ) → Option (List ℕ) → Type 0
WroteLawful checking name old new = (text : List ℕ) × (TellsLawful checking.is_json name text × Appends old new text)

-- the file says no tree: the first of what was found is why, and all that was found was written
pub record WroteFaults (checking : Checking) (name file : List ℕ) (old new : Option (List ℕ)) : Type 0 where
  pub first : Finding
  pub others : List Finding
  pub finds : IsFirstFault first.fault file
  pub text : List ℕ
  pub tells : TellsFaults remarked checking.is_json checking.has_all name (first ∷ others) text
  pub wrote : Appends old new text

-- the file says a tree that can't be run for its starts, and all that was found of them was written
pub record WroteUnfit (checking : Checking) (name file : List ℕ) (old new : Option (List ℕ)) : Type 0 where
  pub why : PlanFault
  pub has : HasStarts file why
  pub first : StartFinding
  pub others : List StartFinding
  pub text : List ℕ
  pub tells : TellsFaults unfit.remarked checking.is_json checking.has_all name (first ∷ others) text
  pub wrote : Appends old new text

-- the file says a tree (which can be run), remarks on it are wanted, and all that there are were written
pub record WroteRemarks (checking : Checking) (name file : List ℕ) (old new : Option (List ℕ)) : Type 0 where
  pub lawful : IsLawfulFor checking.has_starts file
  pub wanted : checking.has_remarks ≡ true
  pub first : LintFinding
  pub others : List LintFinding
  pub finds : Finds (first ∷ others) file
  pub text : List ℕ
  pub tells : TellsRemarks lint.remarked checking.is_json checking.has_all name (first ∷ others) text
  pub wrote : Appends old new text

-- a file of this name was checked, with its starts or without, and with remarks or without: how that ends says whether it says a tree
-- (which can be run, and on which there is no remark), and what was written is what was found
abbrev pub IsChecked : Checking → List ℕ → ProgramEnd → List ℕ → Written → Written → Type 0
IsChecked checking name Done file old new =
    IsLawfulFor checking.has_starts file × (IsPlainFor checking.has_remarks file × WroteLawful checking name old.bytes new.bytes)
IsChecked checking name FaultsFound file old new =
    WroteFaults checking name file old.bytes new.bytes
    ⊎ (WroteUnfit checking name file old.bytes new.bytes ⊎ WroteRemarks checking name file old.bytes new.bytes)
IsChecked checking name OutputFailed file old new = old.failures < new.failures
IsChecked checking name OutOfMemory file old new = new ≡ old
IsChecked checking name _ file old new = ⊥

-- the check of a file whose bytes are known to be so: it can't be read, which is written, or it was checked
abbrev pub Checks : Checking → (List ℕ → Type 0) → List ℕ → ProgramEnd → Written → Written → Type 0
Checks checking Holds name ending old new =
    IsWritten (TellsUnread checking.is_json name) FileNotRead ending old new ⊎ ((ending ≡ OutOfMemory) × (new ≡ old))
    ⊎ ((file : List ℕ) × ((Holds file × IsSmall file) × IsChecked checking name ending file old new))

-- these files were checked, one after the other, and after each the next could be; before them it was to end so
abbrev pub ChecksEach : {T : Type 0} → Checking → (T → List ℕ → Type 0) → (T → List ℕ) → List T → ProgramEnd → ProgramEnd → Written → Written → Type 0
ChecksEach checking Holds called [] so_far ending old new = (ending ≡ so_far) × (new ≡ old)
ChecksEach checking Holds called (name ∷ names) so_far ending old new =
    (next : ProgramEnd) × (mid : Written) × (goes_on next ≡ true) × Checks checking (Holds name) (called name) next old mid
    × ChecksEach checking Holds called names (worse so_far next) ending mid new

-- the first of these files were checked so, and the check of the next one ended it
abbrev pub ChecksFirst : {T : Type 0} → Checking → (T → List ℕ → Type 0) → (T → List ℕ) → List T → ProgramEnd → Written → Written → Type 0
ChecksFirst {T} checking Holds called names ending old new =
    (first : List T) × (name : T) × (others : List T) × (so_far : ProgramEnd) × (mid : Written)
    × (names ≡ first ++ name ∷ others) × ChecksEach checking Holds called first Done so_far old mid × (goes_on ending ≡ false) × Checks checking (Holds name) (called name) ending mid new

-- these files were checked, or the first of them up to one whose check ended it
abbrev pub ChecksAll : {T : Type 0} → Checking → (T → List ℕ → Type 0) → (T → List ℕ) → List T → ProgramEnd → Written → Written → Type 0
ChecksAll checking Holds called names ending old new = ChecksEach checking Holds called names Done ending old new ⊎ ChecksFirst checking Holds called names ending old new

-- what a command asks for was done
abbrev pub Does : Files → TreeRuns → Command → ProgramEnd → Devices → Devices → Type 0
Does known trees (command.Sim file) ending old new = Simulates (known.holds file.now) ending old new
Does known trees (command.Check files checking) ending old new =
    IsUnread old new × ChecksAll checking (λ name. known.holds name.now) (λ name. name.now) files.items ending old.output new.output
Does known trees (command.Run file settings shows) ending old new =
    IsUnread old new × trees.by_turns (known.holds file.now) shows.is_json file.now settings.counted ending old.output new.output
Does known trees (command.Serve file settings serving shows) ending old new =
    IsUnread old new × trees.for_a_time (known.holds file.now) shows.is_json file.now ending old.output new.output
Does known trees (command.Judge file scripts clock) ending old new =
    IsUnread old new × Judges known file.now scripts.items ending old.output new.output
Does known trees (command.Use file usage) ending old new = Uses known file.now usage ending old new

-- a picture of the tree that is run is told besides, or why its supervisors ended, where the command asks for it; and remarks on what
-- is imported
abbrev pub draws : Command → Bool
draws (command.Run file settings shows) = shows.is_drawn || shows.is_why
draws (command.Serve file settings serving shows) = shows.is_drawn || shows.is_why
draws (command.Use file usage) = has_remarks usage
draws _ = false

-- what the words ask for was done, for some command, with a picture or without; or the words alone were answered
abbrev pub Obeys : Files → TreeRuns → Bool → ProgramEnd → Devices → Devices → Type 0
Obeys known trees drawn ending old new =
    ((command : Command) × ((draws command ≡ drawn) × Does known trees command ending old new)) ⊎ ((drawn ≡ false) × Answers ending old new)

-- what was done, and what was told before the program ends
pub record IsObeyed (known : Files) (trees : TreeRuns) (ending : ProgramEnd) (old new : Devices) (before now : Written) : Type 0 where
  pub drawn : Bool
  pub done : Obeys known trees drawn ending old new
  pub first : TellsFirst drawn ending before now

-- a run of the program: how it ended, its status, what it did to its input and output, and what it told
pub record IsProgramRun (known : Files) (trees : TreeRuns) (status : ℕ) (old new : Devices) (before now : Written) : Type 0 where
  pub ending : ProgramEnd
  pub drawn : Bool
  pub why : Unwritten
  pub status_is : status ≡ status_of ending
  pub done : Obeys known trees drawn ending old new
  pub told : Tells drawn why ending before now
