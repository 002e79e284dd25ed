-- What `try` writes (own).
use Rattle.std.specs.Prelude.{◌≡◌, ◌⊎◌, ℕ, Bool, List, Ok, Option}
use Rattle.std.specs.Borrow.{Bor}
use Rattle.otp_check.specs.Checks.{IsFirstFault}
use Rattle.otp_file.specs.Files.{Says}
use Rattle.otp_file.specs.Trees.{Tree}
use Rattle.otp_sim.specs.Devices.{Devices}
use Rattle.otp_try.specs.Pages.{Tries}
use Rattle.otp_try.specs.declared.play.TryEnd.{TryEnd}
use Rattle.otp_try.specs.declared.play.TryEnd.TheVariants as trial
use Rattle.otp_exit.specs.declared.ending.ProgramEnd.{ProgramEnd}
use Rattle.otp_exit.specs.declared.ending.ProgramEnd.TheVariants.{Done, NoTree, ScriptRefused, ScriptMissed, ExpectationFailed, NothingPlayed, HistoryFull, InputFailed, OutputFailed, OutOfMemory}

-- how the program ends that tried a tree by the script of this name, if it has one
abbrev pub ending_of_try : Option (Bor (List ℕ)) → TryEnd → ProgramEnd
ending_of_try script trial.Done = Done
ending_of_try script (trial.LineRefused line why) = ScriptRefused script line why
ending_of_try script (trial.LineMissed line why near) = ScriptMissed script line why near
ending_of_try script (trial.ExpectationFailed line) = ExpectationFailed script line
ending_of_try script (trial.LeftOut line why near) = ScriptMissed script line why near
ending_of_try script trial.NothingPlayed = NothingPlayed
ending_of_try script trial.HistoryFull = HistoryFull
ending_of_try script trial.InputFailed = InputFailed
ending_of_try script trial.OutputFailed = OutputFailed
ending_of_try script trial.OutOfMemory = OutOfMemory

-- the file says a tree, and what was written is a run of its supervisors that ended so: all their orders, or their ends alone
abbrev pub WasTried : TryEnd → List ℕ → Devices → Devices → Type 0
WasTried end file old new =
    (tree : Tree) × (Says file (Ok tree) × ((tells : Bool) × Tries end tree tells old.output.bytes new.output.bytes))

-- the tree of the file of this name was tried by the lines of a script, which has this name, if it has one; want of memory may end
-- it before, and says nothing of the file
abbrev pub IsTrial : List ℕ → Option (Bor (List ℕ)) → ProgramEnd → List ℕ → Devices → Devices → Type 0
IsTrial name script Done file old new = WasTried trial.Done file old new
IsTrial name script (NoTree why named) file old new = (new ≡ old) × ((named.now ≡ name) × IsFirstFault why file)
IsTrial name script (ScriptRefused what line why) file old new = (what ≡ script) × WasTried (trial.LineRefused line why) file old new
IsTrial name script (ScriptMissed what line why near) file old new =
    (what ≡ script) × (WasTried (trial.LineMissed line why near) file old new ⊎ WasTried (trial.LeftOut line why near) file old new)
IsTrial name script (ExpectationFailed what line) file old new = (what ≡ script) × WasTried (trial.ExpectationFailed line) file old new
IsTrial name script NothingPlayed file old new = WasTried trial.NothingPlayed file old new
IsTrial name script HistoryFull file old new = WasTried trial.HistoryFull file old new
IsTrial name script InputFailed file old new = WasTried trial.InputFailed file old new
IsTrial name script OutputFailed file old new = WasTried trial.OutputFailed file old new
IsTrial name script OutOfMemory file old new = (new ≡ old) ⊎ WasTried trial.OutOfMemory file old new
IsTrial name script _ file old new = ⊥
