-- The script that a log stands for (own).
use Rattle.std.specs.Prelude.{ℕ, ◌+◌, ◌-◌, Bool, true, false, List, [], ◌∷◌, ◌++◌, Option, Some, None, Result, Ok, Err, codes, decimal, drop, length, map, nat_lt, take, if◌then◌else◌, ◌||◌, ◌==◌}
use Rattle.std.specs.Option.{option_map}
use Rattle.otp_sim.specs.Sim.{lines_of}
use Rattle.otp_replay.specs.Words.{is_empty, is_space, rest_of, stripped, word_of}
use Rattle.otp_replay.specs.Stamps.{is_alike, stamp_in, time_of}
use Rattle.otp_replay.specs.Events.{said_in}
use Rattle.otp_replay.specs.Nears.{miss_of, near_in}
use Rattle.otp_replay.specs.declared.near.Miss.{Miss}
use Rattle.otp_replay.specs.declared.reading.NearLine.{NearLine}
use Rattle.otp_replay.specs.declared.event.Said.{Said}
use Rattle.otp_replay.specs.declared.event.Said.TheVariants.{Unknown, AsInScripts, IsUp}
use Rattle.otp_replay.specs.declared.entry.Entry.{Entry}
use Rattle.otp_replay.specs.declared.entry.Entry.TheVariants.{Silent, Other, Near, Event}
use Rattle.otp_replay.specs.declared.entry.TheConstants.{LONGEST_ENTRY}
use Rattle.otp_replay.specs.declared.reading.LogCounts.{LogCounts}
use Rattle.otp_replay.specs.declared.reading.TheConstants.{MOST_NEAR}
use Rattle.otp_replay.specs.declared.reading.LogFault.{LogFault}
use Rattle.otp_replay.specs.declared.reading.LogFault.TheVariants.{GoesBack, OtherClock}
use Rattle.otp_replay.specs.declared.reading.Timed.{Timed}
use Rattle.otp_replay.specs.declared.reading.Timed.TheVariants as timed
use Rattle.otp_replay.specs.declared.stamp.Stamp.{Stamp}

-- a line that isn't played, for this, if it looks as if it could be
unfoldable pub other_entry : Option Miss → Entry
other_entry None = Other
other_entry (Some miss) = Near miss

-- why a line isn't played that from its first word on is this, and of which these words stand behind the time, if it has one
abbrev pub missed_in : Option (List ℕ) → List ℕ → Entry
missed_in words line = other_entry (option_map (λ near. miss_of words near) (near_in true line))

-- a line with this timestamp, behind which these words stand from this place on
unfoldable pub entry_by : Said → Stamp → ℕ → List ℕ → List ℕ → Entry
entry_by Unknown stamp place line words = missed_in (Some words) line
entry_by AsInScripts stamp place line words = Event stamp false place
entry_by IsUp stamp place line words = Event stamp true place

unfoldable pub entry_of : List ℕ → List ℕ → Option (Stamp × List ℕ) → Entry
entry_of line first None = missed_in None first
entry_of line first (Some found) =
    entry_by (said_in (stripped found.1)) found.0 (length line - length (stripped found.1)) first (stripped found.1)

-- a line of a log: one with no word, one that is played, or another
unfoldable pub entry_in : List ℕ → Entry
entry_in line =
    if nat_lt LONGEST_ENTRY (length line) then Other
    else if is_empty (stripped line) then Silent
    else entry_of line (stripped line) (stamp_in (stripped line))

-- when a line happens, after the first one that is played
unfoldable pub when_of : Option Stamp → ℕ → Stamp → Timed
when_of None last stamp = timed.After 0
when_of (Some first) last stamp =
    if is_alike first stamp then (if nat_lt (time_of stamp) last then timed.Earlier else timed.After (time_of stamp - time_of first))
    else timed.Otherwise

unfoldable pub word_if : Bool → List ℕ
word_if false = []
word_if true = codes "expect "

-- a word behind a space, if there is one
unfoldable pub second_text : List ℕ → List ℕ
second_text [] = []
second_text (byte ∷ word) = codes " " ++ byte ∷ word

-- a timestamp as it was written: its one or two words, with a space between them
unfoldable pub stamp_text : List ℕ → List ℕ
stamp_text front = word_of (stripped front) ++ second_text (word_of (stripped (rest_of (stripped front))))

-- what happened: three words at the most, with a space between them
unfoldable pub words_text : List ℕ → List ℕ
words_text words =
    let second = stripped (rest_of words) in
    word_of words ++ second_text (word_of second) ++ second_text (word_of (stripped (rest_of second)))

-- a line of the script: `at TIME ms`, the words of the log, and its own timestamp as a comment
unfoldable pub step_text : ℕ → Bool → List ℕ → List ℕ → List ℕ
step_text time is_up words front = codes "at " ++ decimal time ++ codes " ms " ++ word_if is_up ++ words_text words ++ codes " # " ++ stamp_text front ++ codes "\n"

-- a byte as it is shown
abbrev pub shown : ℕ → ℕ
shown byte = if is_space byte then 32 else if nat_lt byte 32 || (byte == 127) then 63 else byte

-- a line that isn't played, behind its number
unfoldable pub other_text : ℕ → List ℕ → List ℕ
other_text number line = codes "line " ++ decimal number ++ codes ": " ++ map shown line ++ codes "\n"

-- what was read of a log so far: its lines are counted, the script has a line for each, and then there are those that aren't played,
-- the first of those that look as if they could be, and the timestamp of the first line that is played
pub record Log : Type 0 where
  pub counts : LogCounts
  pub script : List ℕ
  pub others : List ℕ
  pub near : List NearLine
  pub zero : List ℕ

-- nothing yet
abbrev pub no_log : Log
no_log = record { counts = record { lines = 0; played = 0; missed = 0; near = 0; first = None; last = 0 }; script = []; others = []; near = []; zero = [] }

-- a line with no word
unfoldable pub with_silent : Log → Log
with_silent log = record {
  counts = record log.counts { lines = log.counts.lines + 1 };
  script = log.script ++ codes "\n";
  others = log.others;
  near = log.near;
  zero = log.zero;
}

-- a line that isn't played
unfoldable pub with_other : List ℕ → Log → Log
with_other line log = record {
  counts = record log.counts { lines = log.counts.lines + 1; missed = log.counts.missed + 1 };
  script = log.script ++ codes "\n";
  others = log.others ++ other_text (log.counts.lines + 1) line;
  near = log.near;
  zero = log.zero;
}

-- of the lines that look as if they could be played so many are kept, the first
unfoldable pub kept_near : ℕ → Miss → List NearLine → List NearLine
kept_near number miss near = if nat_lt (length near) MOST_NEAR then near ++ record { number = number; miss = miss } ∷ [] else near

-- such a line: it has been counted
unfoldable pub with_near : Miss → Log → Log
with_near miss log = record {
  counts = record log.counts { near = log.counts.near + 1 };
  script = log.script;
  others = log.others;
  near = kept_near log.counts.lines miss log.near;
  zero = log.zero;
}

-- the timestamp of the first line that is played
unfoldable pub first_or : Option Stamp → Stamp → Stamp
first_or None stamp = stamp
first_or (Some first) stamp = first

-- that timestamp as it was written
unfoldable pub zero_or : Option Stamp → List ℕ → List ℕ → List ℕ
zero_or None front zero = stamp_text front
zero_or (Some first) front zero = zero

-- a line that is played so long after the first one
unfoldable pub with_event : Stamp → ℕ → Bool → List ℕ → List ℕ → Log → Log
with_event stamp time is_up words front log = record {
  counts = record {
    lines = log.counts.lines + 1;
    played = log.counts.played + 1;
    missed = log.counts.missed;
    near = log.counts.near;
    first = Some (first_or log.counts.first stamp);
    last = time_of stamp;
  };
  script = log.script ++ step_text time is_up words front;
  others = log.others;
  near = log.near;
  zero = zero_or log.counts.first front log.zero;
}

unfoldable pub event_taken : Timed → Stamp → Bool → List ℕ → List ℕ → Log → Result Log LogFault
event_taken (timed.After time) stamp is_up words front log = Ok (with_event stamp time is_up words front log)
event_taken timed.Earlier stamp is_up words front log = Err (GoesBack (log.counts.lines + 1))
event_taken timed.Otherwise stamp is_up words front log = Err (OtherClock (log.counts.lines + 1))

unfoldable pub entry_taken : Entry → List ℕ → Log → Result Log LogFault
entry_taken Silent line log = Ok (with_silent log)
entry_taken Other line log = Ok (with_other line log)
entry_taken (Near miss) line log = Ok (with_near miss (with_other line log))
entry_taken (Event stamp is_up place) line log =
    event_taken (when_of log.counts.first log.counts.last stamp) stamp is_up (drop place line) (take place line) log

-- a line more
abbrev pub line_taken : List ℕ → Log → Result Log LogFault
line_taken line log = entry_taken (entry_in line) line log

abbrev pub and_then : Result Log LogFault → (Log → Result Log LogFault) → Result Log LogFault
and_then (Ok log) more = more log
and_then (Err fault) more = Err fault

-- these lines more, or the fault of the first that has one
abbrev pub lines_taken : List (List ℕ) → Log → Result Log LogFault
lines_taken [] log = Ok log
lines_taken (line ∷ lines) log = and_then (line_taken line log) (λ next. lines_taken lines next)

-- a log as it was read: its script has a line for each of its lines
abbrev pub log_in : List ℕ → Result Log LogFault
log_in text = lines_taken (lines_of text) no_log

-- a log that was read so far, or a fault
abbrev pub outcome : Option LogFault → Log → Result Log LogFault
outcome None log = Ok log
outcome (Some fault) log = Err fault
