-- A log that was replayed, as an object of JSON (own).
use Rattle.std.specs.Prelude.{◌≡◌, ℕ, ◌==◌, Bool, true, false, List, [], ◌∷◌, ◌++◌, codes, if◌then◌else◌}
use Rattle.otp_try.specs.declared.account.account.Account.{Account}
use Rattle.otp_json.specs.Values.{json_text, key_text, number_member, text_member}
use Rattle.otp_replay.specs.Logs.{Log}
use Rattle.otp_replay.specs.Nears.{miss_text}
use Rattle.otp_replay.specs.declared.reading.LogCounts.{LogCounts}
use Rattle.otp_replay.specs.declared.reading.NearLine.{NearLine}
use Rattle.otp_try_pages.specs.Objects.{TellsBehind, comma_if, file_front, text_if}

-- lines of a text as an array of texts, the first of which has begun so
unfoldable pub next_text : Bool → List ℕ → List ℕ
next_text is_first line = comma_if is_first ++ json_text line

abbrev pub texts_from : Bool → List ℕ → List ℕ → List ℕ
texts_from is_first line [] = []
texts_from is_first line (byte ∷ bytes) =
    if byte == 10 then next_text is_first line ++ texts_from false [] bytes else texts_from is_first (line ++ byte ∷ []) bytes

unfoldable pub texts_member : List ℕ → List ℕ → List ℕ
texts_member key text = key_text (codes ", ") key ++ codes "[" ++ texts_from true [] text ++ codes "]"

-- a line that looks as if it could be played, and why it isn't
unfoldable pub near_object : NearLine → List ℕ
near_object one = number_member (codes "{") (codes "line") one.number ++ text_member (codes ", ") (codes "why") (miss_text one.miss) ++ codes "}"

abbrev pub nears_text : Bool → List NearLine → List ℕ
nears_text is_first [] = []
nears_text is_first (one ∷ near) = comma_if is_first ++ near_object one ++ nears_text false near

-- how many lines were played, how many weren't, and how many of those look as if they could be
unfoldable pub counts_members : LogCounts → List ℕ
counts_members counts =
    number_member (codes ", ") (codes "played") counts.played ++ number_member (codes ", ") (codes "not_matched") counts.missed
    ++ number_member (codes ", ") (codes "look_so") counts.near

unfoldable pub near_member : List NearLine → List ℕ
near_member near = key_text (codes ", ") (codes "near") ++ codes "[" ++ nears_text true near ++ codes "]"

-- the lines that weren't played, if they are listed
unfoldable pub unmatched_member : Bool → List ℕ → List ℕ
unmatched_member false others = key_text (codes ", ") (codes "unmatched") ++ codes "null"
unmatched_member true others = texts_member (codes "unmatched") others

-- the log and what was told of it as one of another program; which time of it is zero
unfoldable pub log_members : List ℕ → List ℕ → List ℕ → List ℕ
log_members name notes zero = text_member (codes ", ") (codes "log") name ++ texts_member (codes "notes") notes ++ text_if (codes "zero") zero

-- what stands before the run: the tree's file, the log, and its lines
unfoldable pub replay_front : List ℕ → List ℕ → List ℕ → Bool → Log → List ℕ
replay_front name log_name notes is_listed log =
    file_front name ++ log_members log_name notes log.zero ++ counts_members log.counts ++ near_member log.near
    ++ unmatched_member is_listed log.others

-- a run of the script that a log stands for is told so
abbrev pub TellsReplay : List ℕ → List ℕ → List ℕ → Bool → Log → Account → List ℕ → Type 0
TellsReplay name log_name notes is_listed log account text = TellsBehind (replay_front name log_name notes is_listed log) account text
