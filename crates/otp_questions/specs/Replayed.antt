-- What `replay` writes (own).
use Rattle.std.specs.Prelude.{◌≡◌, ◌⊎◌, ℕ, ◌<◌, Bool, List, Option, Some, Ok, Err}
use Rattle.std.specs.Borrow.{Bor}
use Rattle.std.specs.Io.KnownBytes.{Appends}
use Rattle.otp_try.specs.declared.account.account.Account.{Account}
use Rattle.otp_check.specs.Checks.{IsFirstFault}
use Rattle.otp_file.specs.Files.{Says}
use Rattle.otp_file.specs.Trees.{Tree}
use Rattle.otp_sim.specs.Devices.{Written}
use Rattle.otp_replay.specs.Logs.{Log, log_in}
use Rattle.otp_replay.specs.Told.{Replays}
use Rattle.otp_replay.specs.declared.reading.LogFault.{LogFault}
use Rattle.otp_replay.specs.declared.played.ReplayEnd.TheVariants.{Tried}
use Rattle.otp_try.specs.declared.play.TryEnd.{TryEnd}
use Rattle.otp_try.specs.declared.play.TryEnd.TheVariants as trial
use Rattle.otp_try_pages.specs.Replayed.{TellsReplay}
use Rattle.otp_exit.specs.Devices.{HasTree}
use Rattle.otp_questions.specs.Paged.{EndsRun, IsNotMade, IsRunOf}
use Rattle.otp_exit.specs.declared.ending.ProgramEnd.{ProgramEnd}
use Rattle.otp_exit.specs.declared.ending.ProgramEnd.TheVariants.{Done, NoTree, LogRefused, ScriptRefused, ScriptMissed, ExpectationFailed, NothingPlayed, HistoryFull, InputFailed, OutputFailed, OutOfMemory}

-- the file says a tree, and what was written is the replay of this log that ended so
abbrev pub WasReplayed : TryEnd → List ℕ → List ℕ → List ℕ → Bool → Option (List ℕ) → Option (List ℕ) → Type 0
WasReplayed end file log text is_listed before now =
    (tree : Tree) × (Says file (Ok tree) × ((tells : Bool) × Replays (Tried end) tree log text tells is_listed before now))

-- the log of this name was replayed on the tree of a file, or it was refused and nothing was written; want of memory may end it
-- before, and says nothing of either
abbrev pub IsReplay : Bor (List ℕ) → List ℕ → Bool → List ℕ → ProgramEnd → List ℕ → Written → Written → Type 0
IsReplay log text is_listed name Done file old new = WasReplayed trial.Done file log.now text is_listed old.bytes new.bytes
IsReplay log text is_listed name (NoTree why named) file old new = (new ≡ old) × ((named.now ≡ name) × IsFirstFault why file)
IsReplay log text is_listed name (LogRefused what why) file old new =
    (new.bytes ≡ old.bytes) × ((what ≡ log) × (HasTree file × (log_in text ≡ Err why)))
IsReplay log text is_listed name (ScriptRefused what line why) file old new =
    (what ≡ Some log) × WasReplayed (trial.LineRefused line why) file log.now text is_listed old.bytes new.bytes
IsReplay log text is_listed name (ScriptMissed what line why near) file old new =
    (what ≡ Some log) × (WasReplayed (trial.LineMissed line why near) file log.now text is_listed old.bytes new.bytes
    ⊎ WasReplayed (trial.LeftOut line why near) file log.now text is_listed old.bytes new.bytes)
IsReplay log text is_listed name (ExpectationFailed what line) file old new =
    (what ≡ Some log) × WasReplayed (trial.ExpectationFailed line) file log.now text is_listed old.bytes new.bytes
IsReplay log text is_listed name NothingPlayed file old new = WasReplayed trial.NothingPlayed file log.now text is_listed old.bytes new.bytes
IsReplay log text is_listed name HistoryFull file old new = WasReplayed trial.HistoryFull file log.now text is_listed old.bytes new.bytes
IsReplay log text is_listed name InputFailed file old new = WasReplayed trial.InputFailed file log.now text is_listed old.bytes new.bytes
IsReplay log text is_listed name OutputFailed file old new = WasReplayed trial.OutputFailed file log.now text is_listed old.bytes new.bytes
IsReplay log text is_listed name OutOfMemory file old new =
    (new ≡ old) ⊎ WasReplayed trial.OutOfMemory file log.now text is_listed old.bytes new.bytes
IsReplay log text is_listed name _ file old new = ⊥

-- a log is refused, of which nothing is played
abbrev pub IsRefused : Bor (List ℕ) → List ℕ → ProgramEnd → List ℕ → Type 0
IsRefused log text ending file = (why : LogFault) × ((ending ≡ LogRefused log why) × (HasTree file × (log_in text ≡ Err why)))

-- the log was read, and a run of its script was kept on the tree that the file says
abbrev pub IsPlayedLog : List ℕ → List ℕ → Log → Account → Type 0
IsPlayedLog text file read account = (log_in text ≡ Ok read) × IsRunOf file account

-- the object tells of both, and so the program ends
abbrev pub IsReplayObject : List ℕ → Bor (List ℕ) → List ℕ → Bool → List ℕ → List ℕ → ProgramEnd → List ℕ → Type 0
IsReplayObject notes log text is_listed name file ending object =
    (read : Log) × (account : Account)
    × (IsPlayedLog text file read account
    × (EndsRun (Some log) account ending × TellsReplay name log.now notes is_listed read account object))

-- a replay was written as an object, which has the notes on the log, or not
abbrev pub IsReplayTold : List ℕ → Bor (List ℕ) → List ℕ → Bool → List ℕ → ProgramEnd → List ℕ → Written → Written → Type 0
IsReplayTold notes log text is_listed name ending file old new =
    ((object : List ℕ) × (IsReplayObject notes log text is_listed name file ending object × Appends old.bytes new.bytes object))
    ⊎ (((ending ≡ OutputFailed) × (HasTree file × (old.failures < new.failures)))
    ⊎ ((new ≡ old) × (IsRefused log text ending file ⊎ IsNotMade name ending file)))
