-- What was written for a file of another program (own).
use Rattle.std.specs.Prelude.{◌≡◌, ℕ, ◌<◌, Bool, true, false, List}
use Rattle.std.specs.Io.KnownBytes.{Appends}
use Rattle.otp_sim.specs.Devices.{Written}
use Rattle.otp_exit.specs.Devices.{HasTree}
use Rattle.otp_exit.specs.declared.ending.ProgramEnd.{ProgramEnd}
use Rattle.otp_exit.specs.declared.ending.ProgramEnd.TheVariants.{Done, FileNotRead, OutputFailed, OutOfMemory}

-- what is written: a tree file that says a tree; of a file of commands nothing is said
abbrev pub IsMade : Bool → List ℕ → Type 0
IsMade false text = HasTree text
IsMade true text = Unit {0}

-- it was written; or the file says no tree, which was told, there is no memory, or the writer failed
abbrev pub IsImported : Bool → ProgramEnd → Written → Written → Type 0
IsImported of_commands Done old new = (text : List ℕ) × (IsMade of_commands text × Appends old.bytes new.bytes text)
IsImported of_commands FileNotRead old new = new ≡ old
IsImported of_commands OutputFailed old new = old.failures < new.failures
IsImported of_commands OutOfMemory old new = new ≡ old
IsImported of_commands _ old new = ⊥
