-- Lines of a log that look as if they said what happened, and aren't played (own).
use Rattle.std.specs.Prelude.{ℕ, Bool, false, not, ◌&&◌, ◌||◌, ◌==◌, List, [], ◌∷◌, Option, Some, None, codes, if◌then◌else◌, length}
use Rattle.std.specs.Str.{bytes_eq, str_eq_ignore_ascii_case}
use Rattle.otp_replay.specs.Events.{is_child}
use Rattle.otp_replay.specs.Words.{is_empty, is_space, rest_of, stripped, word_of}
use Rattle.otp_replay.specs.declared.near.Miss.{Miss}
use Rattle.otp_replay.specs.declared.near.Miss.TheVariants.{Time, Between, Letters, Child, Reason}

-- words look so that begin with one for what happened, in letters of any size, and as many words behind it as it has at the least:
-- behind `up` stands the last word, and `stop` is the last itself
unfoldable pub looks_so : List ℕ → Bool
looks_so line =
    let verb = word_of line in
    let second = stripped (rest_of line) in
    let third = stripped (rest_of second) in
    if str_eq_ignore_ascii_case verb (codes "crash") then not (is_empty second)
    else if str_eq_ignore_ascii_case verb (codes "exit") then not (is_empty third)
    else if str_eq_ignore_ascii_case verb (codes "up") then not (is_empty second) && is_empty third
    else if str_eq_ignore_ascii_case verb (codes "stop") then is_empty second
    else false

-- the line from the first word on from which it looks so; at its first byte a word begins, or not
abbrev pub near_in : Bool → List ℕ → Option (List ℕ)
near_in begins [] = None
near_in begins (byte ∷ bytes) = if begins && looks_so (byte ∷ bytes) then Some (byte ∷ bytes) else near_in (is_space byte) bytes

-- a word says what happened, in its own letters
unfoldable pub is_verb : List ℕ → Bool
is_verb word = bytes_eq word (codes "crash") || bytes_eq word (codes "exit") || bytes_eq word (codes "up") || bytes_eq word (codes "stop")

-- why such words are not what happened, which stand behind a time
unfoldable pub miss_in : List ℕ → Miss
miss_in line =
    if not (is_verb (word_of line)) then Letters
    else if is_child (word_of (stripped (rest_of line))) then Reason
    else Child

-- why a line isn't played that looks so from there on, of which these words stand behind the time, if it has one
unfoldable pub miss_of : Option (List ℕ) → List ℕ → Miss
miss_of None near = Time
miss_of (Some words) near = if length words == length near then miss_in near else Between

-- why a line isn't played that looks so, in words
unfoldable pub miss_text : Miss → List ℕ
miss_text Time = codes "not a time; write seconds as 12.250, or 2026-11-26T20:49:00.125Z"
miss_text Between = codes "other words stand between the time and what happened"
miss_text Letters = codes "crash, exit, stop and up have small letters"
miss_text Child = codes "not a child; write an id, or ids with a / between them"
miss_text Reason = codes "not a reason; write normal, shutdown, kill, killed, noproc, shutdown:T or error:T"
