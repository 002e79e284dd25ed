-- What stands for a log of another program (own).
use Rattle.std.specs.Prelude.{◌≡◌, ℕ, Bool, true, false, List, [], ◌++◌, Option, Some, None, codes}
use Rattle.otp_logs.specs.Formats.{log_format}
use Rattle.otp_logs.specs.Lines.{ends_in}
use Rattle.otp_logs.specs.declared.format.Format.{Format}
use Rattle.otp_logs.specs.declared.format.Format.TheVariants.{Otp, Elixir, Supervisord, Journal, JournalObjects, Objects, Daemon, DaemonObjects}
use Rattle.otp_logs.specs.declared.translating.Translation.{Translation}

-- what a log of a format is
unfoldable pub format_text : Format → List ℕ
format_text Otp = codes "reports of OTP's supervisors"
format_text Elixir = codes "a log of Elixir"
format_text Supervisord = codes "a log of supervisord"
format_text Journal = codes "a journal of systemd"
format_text JournalObjects = codes "a journal of systemd in JSON"
format_text Objects = codes "a log of Erlang or Elixir in JSON"
format_text Daemon = codes "a log of otp-procs"
format_text DaemonObjects = codes "a log of otp-procs in JSON"

unfoldable pub front_text : Bool → List ℕ
front_text true = codes "the last run in "
front_text false = []

-- what is told of a log of this name: its format, also that only its last run was read, and then what was counted
unfoldable pub notes_text : List ℕ → Bool → Format → List ℕ → List ℕ
notes_text name is_last format counts = name ++ codes ": " ++ front_text is_last ++ format_text format ++ codes ": " ++ counts

-- notes on a log of this name say this format
abbrev pub SaysFormat : List ℕ → Format → List ℕ → Type 0
SaysFormat name format notes = (is_last : Bool) × ((counts : List ℕ) × (notes ≡ notes_text name is_last format counts))

-- as many lines stand for those of a text
abbrev pub StandsFor : List ℕ → List ℕ → Type 0
StandsFor lines text = ends_in lines ≡ ends_in text

-- what stands for a log of this name: of one of another program as many lines, and notes that say its format
abbrev pub IsTranslated : List ℕ → List ℕ → Option Translation → Type 0
IsTranslated name text None = log_format text ≡ None
IsTranslated name text (Some found) =
    (log_format text ≡ Some found.format) × (StandsFor found.lines.items text × SaysFormat name found.format found.notes.items)
