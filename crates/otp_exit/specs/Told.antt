-- What is told before the program ends, and what is said of a file that is read (own).
use Rattle.std.specs.Prelude.{◌≡◌, ◌⊎◌, ℕ, ◌<◌, ◌≤◌, length, Bool, true, false, List, [], ◌++◌}
use Rattle.std.specs.Borrow.{Bor}
use Rattle.std.specs.Io.KnownBytes.{Appends}
use Rattle.otp_sim.specs.Devices.{Written}
use Rattle.otp_exit.specs.Statuses.{sentence_since}
use Rattle.otp_exit.specs.declared.ending.ProgramEnd.{ProgramEnd}
use Rattle.otp_exit.specs.declared.ending.ProgramEnd.TheVariants.{Done, WordsRefused, TreeNotRead, FileNotRead, TreeRefused, UnknownStart, WrongBody, FaultsFound, OutputFailed, OutOfMemory, NotFinished, LineRefused, PageNotWritten, PageRefused}
use Rattle.otp_exit.specs.declared.ending.Unwritten.{Unwritten}
use Rattle.otp_exit.specs.declared.files.TheConstants.{LARGEST_TREE}

-- a text was written, or the writer failed
abbrev pub IsTold : List ℕ → Written → Written → Type 0
IsTold text before now = (before.failures < now.failures) ⊎ Appends before.bytes now.bytes text

-- what is told before the program ends: why `clap` refuses the words, why a file can't be read, which command explains why a
-- tree or a line is refused, which starts are unfit, what a run awaits that isn't finished, and where it is wanted a picture of a tree
-- that was run, or why its supervisors ended
abbrev pub is_told_first : Bool → ProgramEnd → Bool
is_told_first drawn WordsRefused = true
is_told_first drawn FileNotRead = true
is_told_first drawn (TreeRefused _) = true
is_told_first drawn (UnknownStart _) = true
is_told_first drawn WrongBody = true
is_told_first drawn NotFinished = true
is_told_first drawn (LineRefused _ _) = true
is_told_first drawn Done = drawn
is_told_first drawn _ = false

-- before the program ends nothing else is told
abbrev pub TellsFirst : Bool → ProgramEnd → Written → Written → Type 0
TellsFirst drawn ending before now =
    (text : List ℕ) × ((is_told_first drawn ending ≡ false → text ≡ []) × IsTold text before now)

-- what is told before the program ends, and the sentence of the ending, by why the output last failed
abbrev pub Tells : Bool → Unwritten → ProgramEnd → Written → Written → Type 0
Tells drawn why ending before now =
    (text : List ℕ) × ((is_told_first drawn ending ≡ false → text ≡ []) × IsTold (text ++ sentence_since why ending) before now)

-- whether the next file is checked after a check that ended so
abbrev pub goes_on : ProgramEnd → Bool
goes_on Done = true
goes_on FaultsFound = true
goes_on FileNotRead = true
goes_on _ = false

-- how two checks end, one after the other: faults in one are faults of both
abbrev pub worse : ProgramEnd → ProgramEnd → ProgramEnd
worse first Done = first
worse first rest = rest

-- a tree file that is parsed by what people use: it is not too large for a tree
abbrev pub IsSmall : List ℕ → Type 0
IsSmall file = length file ≤ LARGEST_TREE

-- a tree that is to be run can't be read: of a file that isn't told why, of standard input it is
abbrev pub IsUnreadEnd : ProgramEnd → Type 0
IsUnreadEnd ending = (ending ≡ TreeNotRead) ⊎ ((ending ≡ FileNotRead) ⊎ (ending ≡ OutOfMemory))

-- the page of this name can't be written, or may not be
abbrev pub IsUnkept : Bor (List ℕ) → ProgramEnd → Type 0
IsUnkept name ending =
    ((why : Bor (List ℕ)) × ((ending ≡ PageNotWritten name why) ⊎ (ending ≡ PageRefused name why))) ⊎ (ending ≡ OutOfMemory)
