-- What the words of the command line are refused for (own).
use Rattle.std.specs.Prelude.{◌≡◌, ℕ, List, codes}
use Rattle.std.specs.IoError.{error_kind}
use Rattle.std.specs.declared.io.Error.{Error as SystemError}
use Rattle.std.specs.declared.io.ErrorKind.TheVariants as system
use Rattle.clap.specs.declared.error.Error.{Error}
use Rattle.clap.specs.declared.error.kind.ErrorKind.TheVariants as kind
use Rattle.clap.specs.Values.{kind_of}
use Rattle.otp_cli.specs.declared.slips.Meant.{Meant}
use Rattle.otp_cli.specs.declared.slips.Meant.TheVariants as meant
use Rattle.otp_cli.specs.declared.slips.Slip.{Slip}
use Rattle.otp_cli.specs.declared.slips.Slip.TheVariants as slip
use Rattle.otp_cli.specs.declared.words.WordsFault.{WordsFault}
use Rattle.otp_cli.specs.declared.words.WordsFault.TheVariants.{Clap, NoCommand, FileAsCommand, UnknownClock, NotATime, NeedsFor, CountsTurns, NotText, OutOfMemory, Slip as SlipFault, Topic}

-- an error of clap that is handed on is not want of memory
abbrev pub IsHandedOn : WordsFault → Type 0
IsHandedOn (Clap error) = ¬ (kind_of error ≡ kind.OutOfMemory)
IsHandedOn NoCommand = Unit {0}
IsHandedOn FileAsCommand = Unit {0}
IsHandedOn UnknownClock = Unit {0}
IsHandedOn NotATime = Unit {0}
IsHandedOn NeedsFor = Unit {0}
IsHandedOn CountsTurns = Unit {0}
IsHandedOn (SlipFault _) = Unit {0}
IsHandedOn (Topic _) = Unit {0}
IsHandedOn NotText = Unit {0}
IsHandedOn OutOfMemory = Unit {0}

-- what becomes of an answer of clap that is no match: want of memory is told as such, and all else as it is
abbrev pub IsOfClap : Error → WordsFault → Type 0
IsOfClap error fault = (kind_of error ≡ kind.OutOfMemory → fault ≡ OutOfMemory) × (¬ (kind_of error ≡ kind.OutOfMemory) → fault ≡ Clap error)

-- what becomes of an error of the system where the words are taken from it: want of memory is told, all else is a word that is no text
abbrev pub IsOfSystem : SystemError → WordsFault → Type 0
IsOfSystem error fault = (error_kind error ≡ system.OutOfMemory → fault ≡ OutOfMemory) × (¬ (error_kind error ≡ system.OutOfMemory) → fault ≡ NotText)

-- what is told of what was meant
unfoldable pub meant_text : Meant → List ℕ
meant_text meant.Try = codes "there is no such command; did you mean otp try?"
meant_text meant.Run = codes "there is no such command; did you mean otp run?"
meant_text meant.Check = codes "there is no such command; did you mean otp check?"
meant_text meant.Tree = codes "there is no such command; did you mean otp tree?"
meant_text meant.Limits = codes "there is no such command; did you mean otp limits?"
meant_text meant.Shutdown = codes "there is no such command; did you mean otp shutdown?"
meant_text meant.Suggest = codes "there is no such command; did you mean otp suggest?"
meant_text meant.Diff = codes "there is no such command; did you mean otp diff?"
meant_text meant.Replay = codes "there is no such command; did you mean otp replay?"
meant_text meant.Import = codes "there is no such command; did you mean otp import?"
meant_text meant.Sim = codes "there is no such command; did you mean otp sim?"
meant_text meant.Help = codes "there is no such command; did you mean otp help?"
meant_text meant.Version = codes "there is no such command; did you mean otp --version?"
meant_text meant.Script = codes "there is no such topic; did you mean otp help script?"
meant_text meant.Lines = codes "there is no such topic; did you mean otp help lines?"
meant_text meant.File = codes "there is no such topic; did you mean otp help file?"
meant_text meant.Logs = codes "there is no such topic; did you mean otp help logs?"
meant_text meant.Otp = codes "there is no such topic; did you mean otp help otp?"

-- what is told of a slip
unfoldable pub slip_text : Slip → List ℕ
slip_text slip.InputTwice = codes "standard input would be read twice; name a file for one of the two, as in otp try - SCRIPT"
slip_text slip.TwoForms = codes "--json, --html and --tap are forms of one answer; choose one of them"
slip_text slip.ManyScripts = codes "several scripts are told of by --tap alone, with a line for each"
slip_text slip.NoScript = codes "--tap wants a script, or several; - is standard input"
slip_text slip.NoObject = codes "this command has no --json; check, diff, limits, replay, run, shutdown, suggest, tree and try have it"
slip_text slip.HowOften = codes "suggest wants --every TIME, or --times N and --within TIME"
slip_text slip.RootHow = codes "suggest --root wants --times N and --within TIME"
slip_text slip.Negative = codes "--schedulers, --turns and --width want a whole number from 1 on"
slip_text (slip.Meant meant) = meant_text meant
