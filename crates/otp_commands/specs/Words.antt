-- How the program ends whose words ask for nothing that can be done (own).
use Rattle.std.specs.Prelude.{◌≡◌, ◌⊎◌, ℕ, List}
use Rattle.std.specs.Borrow.{Bor}
use Rattle.clap.specs.declared.error.Error.{Error}
use Rattle.clap.specs.declared.error.kind.ErrorKind.TheVariants as kind
use Rattle.clap.specs.Values.{kind_of}
use Rattle.otp_cli.specs.Words.{slip_text}
use Rattle.otp_cli.specs.declared.slips.Slip.{Slip}
use Rattle.otp_cli.specs.declared.words.WordsFault.{WordsFault}
use Rattle.otp_cli.specs.declared.words.WordsFault.TheVariants.{Clap, NoCommand, FileAsCommand, UnknownClock, NotATime, NeedsFor, CountsTurns, Slip as SlipFault, Topic, NotText, OutOfMemory}
use Rattle.otp_exit.specs.declared.ending.ProgramEnd.{ProgramEnd}
use Rattle.otp_exit.specs.declared.ending.ProgramEnd.TheVariants as ending

-- `clap` was asked for its help or its version, and has refused nothing
abbrev pub IsShown : Error → Type 0
IsShown error = (kind_of error ≡ kind.DisplayHelp) ⊎ (kind_of error ≡ kind.DisplayVersion)

-- how the program ends whose words have this slip
abbrev pub IsSlip : Slip → ProgramEnd → Type 0
IsSlip slip end = (why : Bor (List ℕ)) × ((end ≡ ending.Refused why) × (why.now ≡ slip_text slip))

-- how the program ends whose words come to this; the text of `clap` may be refused memory
abbrev pub EndsFor : WordsFault → ProgramEnd → Type 0
EndsFor (Clap error) end =
    (IsShown error → (end ≡ ending.Done) ⊎ (end ≡ ending.OutputFailed) ⊎ (end ≡ ending.OutOfMemory))
    × (¬ IsShown error → (end ≡ ending.WordsRefused) ⊎ (end ≡ ending.OutOfMemory))
EndsFor NoCommand end = end ≡ ending.NoCommand
EndsFor FileAsCommand end = end ≡ ending.FileAsCommand
EndsFor UnknownClock end = end ≡ ending.UnknownClock
EndsFor NotATime end = end ≡ ending.NotATime
EndsFor NeedsFor end = end ≡ ending.NeedsFor
EndsFor CountsTurns end = end ≡ ending.CountsTurns
EndsFor (SlipFault slip) end = IsSlip slip end
EndsFor (Topic _) end = (end ≡ ending.Done) ⊎ (end ≡ ending.OutputFailed)
EndsFor NotText end = end ≡ ending.WordNotText
EndsFor OutOfMemory end = end ≡ ending.OutOfMemory
