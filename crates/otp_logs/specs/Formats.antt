-- Which program wrote a log (own): the first line with a sign says so.
use Rattle.std.specs.Prelude.{ℕ, ◌-◌, Bool, ◌&&◌, ◌||◌, List, [], ◌∷◌, Option, Some, None, codes, drop, length, if◌then◌else◌}
use Rattle.std.specs.Str.{bytes_eq}
use Rattle.otp_logs.specs.Lines.{lines_of}
use Rattle.otp_logs.specs.Words.{begins, behind, behind_word, has, stripped, word_of}
use Rattle.otp_logs.specs.Times.{behind_clock, behind_moment, behind_stamp, fits, is_clock, is_moment, is_stamp}
use Rattle.otp_logs.specs.Objects.{message_of, value_of}
use Rattle.otp_logs.specs.declared.format.Format.{Format}
use Rattle.otp_logs.specs.declared.format.Format.TheVariants.{Otp, Elixir, Supervisord, Journal, JournalObjects, Objects, Daemon, DaemonObjects}
use Rattle.otp_logs.specs.declared.format.Sign.{Sign}
use Rattle.otp_logs.specs.declared.format.Sign.TheVariants.{Nothing, Own, Of}

-- a word says what happened, in a line that a replay takes as it stands
unfoldable pub is_own_word : List ℕ → Bool
is_own_word word = bytes_eq word (codes "crash") || bytes_eq word (codes "exit") || bytes_eq word (codes "up") || bytes_eq word (codes "stop")

-- what stands behind a time, which is a date and a time of the day, or else a word
unfoldable pub behind_time : List ℕ → List ℕ
behind_time words = if is_moment words then stripped (behind_moment words) else behind_word words

-- a line reads as one that a replay takes as it stands: behind its time stands such a word
unfoldable pub is_plain : List ℕ → Bool
is_plain line = is_own_word (word_of (behind_time (stripped line)))

-- Elixir says so of a child
unfoldable pub is_elixirs : List ℕ → Bool
is_elixirs message =
    if begins (codes "Child ") message then has (codes " of Supervisor ") message
    else begins (codes "GenServer ") message && has (codes " terminating") message

-- a supervisor of OTP says so of a child, on one line or several
unfoldable pub is_otps : List ℕ → Bool
is_otps text = has (codes "ontext: ") (behind (codes "upervisor: ") text) || has (codes "tarted: ") (behind (codes "upervisor: ") text)

-- Elixir's Logger writes so, behind the time
unfoldable pub is_of_elixir : List ℕ → Bool
is_of_elixir text = is_elixirs (behind (codes "] ") text)

-- behind a time stands a level of supervisord
unfoldable pub is_level : List ℕ → Bool
is_level text =
    begins (codes " INFO ") text || begins (codes " WARN ") text || begins (codes " CRIT ") text || begins (codes " DEBG ") text
    || begins (codes " ERRO ") text || begins (codes " TRAC ") text || begins (codes " BLAT ") text

-- what supervisord says behind its level
unfoldable pub is_supervisords : List ℕ → Bool
is_supervisords words =
    begins (codes "spawned: '") words || begins (codes "exited: ") words || begins (codes "success: ") words
    || begins (codes "stopped: ") words || begins (codes "gave up: ") words || begins (codes "received SIG") words
    || begins (codes "supervisord started with pid ") words

-- a word is seconds with milliseconds, as 3.211
unfoldable pub is_seconds : List ℕ → Bool
is_seconds word = fits (codes "0") word && fits (codes ".000") (drop (length word - 4) word)

-- `otp-procs` begins a line so, behind its times
unfoldable pub is_daemon_word : List ℕ → Bool
is_daemon_word word =
    bytes_eq word (codes "began") || bytes_eq word (codes "start") || bytes_eq word (codes "up") || bytes_eq word (codes "ask")
    || bytes_eq word (codes "exit")

unfoldable pub is_of_daemon : List ℕ → Bool
is_of_daemon words = is_seconds (word_of words) && is_daemon_word (word_of (behind_word words))

-- systemd says so, behind a time
unfoldable pub is_systemds : List ℕ → Bool
is_systemds text = has (codes " systemd[") text

-- systemd says so, behind a day without its year
unfoldable pub is_of_journal : List ℕ → Bool
is_of_journal line = is_stamp line && is_systemds (behind_stamp line)

-- what a line says behind a date and a time
unfoldable pub sign_behind : List ℕ → Sign
sign_behind text =
    if is_level text && is_supervisords (behind_word (stripped text)) then Of Supervisord
    else if is_of_daemon (stripped text) then Of Daemon
    else if is_systemds text then Of Journal
    else if is_otps text then Of Otp
    else if is_of_elixir text then Of Elixir
    else Nothing

-- what an object of JSON says
unfoldable pub sign_of_object : List ℕ → Sign
sign_of_object line =
    if begins (codes "{\"time\":\"") line && has (codes ",\"ms\":") line then Of DaemonObjects
    else if begins (codes "\"") (value_of (codes "\"__REALTIME_TIMESTAMP\"") line) then Of JournalObjects
    else if is_elixirs (message_of line) || is_otps (message_of line) then Of Objects
    else Nothing

-- what a line says of the format of its log
unfoldable pub sign_of : List ℕ → Sign
sign_of line =
    if begins (codes "{") line then sign_of_object line
    else if begins (codes "=") line && has (codes " REPORT==== ") line then Of Otp
    else if begins (codes "    supervisor: ") line then Of Otp
    else if is_plain line then Own
    else if is_moment line then sign_behind (behind_moment line)
    else if is_clock line && is_of_elixir (behind_clock line) then Of Elixir
    else if is_of_journal line then Of Journal
    else Nothing

-- what a sign says, and else these lines
abbrev pub format_by : Sign → Option Format → Option Format
format_by Nothing others = others
format_by Own others = None
format_by (Of format) others = Some format

abbrev pub format_in : List (List ℕ) → Option Format
format_in [] = None
format_in (line ∷ lines) = format_by (sign_of line) (format_in lines)

-- the program that wrote a log; none where a replay takes the log as it stands, or it isn't known
unfoldable pub log_format : List ℕ → Option Format
log_format text = format_in (lines_of text)
