-- Timestamps (own). Instants are those of the kit's reader of Temporal text, which takes in RFC 3339 and ISO 8601.
use Rattle.std.specs.Prelude.{ℕ, ℤ, pos, negsuc, ◌+◌, ◌-◌, ◌*◌, ◌/◌, Bool, true, false, ◌&&◌, ◌==◌, nat_le, nat_lt, List, [], ◌∷◌, ◌++◌, Option, Some, None, Result, Ok, Err, codes, drop, length, position, slice_index, take, if◌then◌else◌}
use Rattle.std.specs.List.{list_all}
use Rattle.jiff_core.specs.declared.error.Error.{Error}
use Rattle.jiff_fmt.specs.Temporal.{parse_timestamp}
use Rattle.otp_text.specs.Words.{is_digit, number_up_to, or_else, when}
use Rattle.otp_replay.specs.Words.{before, rest_of, stripped, word_of}
use Rattle.otp_replay.specs.declared.stamp.Stamp.{Stamp}
use Rattle.otp_replay.specs.declared.stamp.Stamp.TheVariants.{Seconds, Instant}
use Rattle.otp_replay.specs.declared.stamp.TheConstants.{MOST_SECONDS}

-- what stands behind the point of a number; a number without one has no fraction
abbrev pub fraction : Option ℕ → List ℕ → List ℕ
fraction None word = codes "0"
fraction (Some place) word = drop (place + 1) word

-- what the digit at this place says, 0 where there is none
unfoldable pub digit_at : ℕ → List ℕ → ℕ
digit_at place digits = if nat_lt place (length digits) then slice_index digits place - 48 else 0

-- the thousandths that digits behind a point say: those behind the third are left out
unfoldable pub thousandths : List ℕ → Option ℕ
thousandths digits =
    when (nat_le 1 (length digits) && list_all is_digit digits) (digit_at 0 digits * 100 + digit_at 1 digits * 10 + digit_at 2 digits)

-- whole seconds and thousandths, in milliseconds
unfoldable pub both : Option ℕ → Option ℕ → Option ℕ
both None thousandths = None
both (Some seconds) None = None
both (Some seconds) (Some thousandths) = Some (seconds * 1000 + thousandths)

-- a number of seconds, in milliseconds
unfoldable pub seconds_by : Option ℕ → List ℕ → Option ℕ
seconds_by point word = both (number_up_to MOST_SECONDS (before point word)) (thousandths (fraction point word))

abbrev pub seconds_in : List ℕ → Option ℕ
seconds_in word = seconds_by (position (λ byte. byte == 46) word) word

-- nanoseconds since the beginning of 1970 as whole milliseconds; what is earlier is no time of a log
abbrev pub millis : ℤ → Option ℕ
millis (pos nanos) = Some (nanos / 1000000)
millis (negsuc nanos) = None

unfoldable pub instant_of : Result ℤ Error → Option ℕ
instant_of (Ok nanos) = millis nanos
instant_of (Err error) = None

abbrev pub instant_in : List ℕ → Option ℕ
instant_in text = instant_of (parse_timestamp text)

-- an instant; one that names no offset is taken to be of UTC
abbrev pub zoned_in : List ℕ → Option ℕ
zoned_in text = or_else (instant_in text) (instant_in (text ++ codes "Z"))

-- the line without what is left of it
abbrev pub without : List ℕ → List ℕ → List ℕ
without rest line = take (length line - length rest) line

-- the first of these times, and what is left of the line behind it: a number and an instant have the first word, and an instant
-- with a space before the time of day has two
unfoldable pub first_of : Option ℕ → Option ℕ → Option ℕ → List ℕ → List ℕ → Option (Stamp × List ℕ)
first_of (Some time) instant spaced rest left = Some (Seconds time, rest)
first_of None (Some time) spaced rest left = Some (Instant time, rest)
first_of None None (Some time) rest left = Some (Instant time, left)
first_of None None None rest left = None

-- what is left of a line behind its first two words
abbrev pub behind_two : List ℕ → List ℕ
behind_two line = rest_of (stripped (rest_of line))

-- the timestamp at the beginning of a line, and what is left of it
abbrev pub stamp_in : List ℕ → Option (Stamp × List ℕ)
stamp_in line =
    first_of (seconds_in (word_of line)) (zoned_in (word_of line)) (zoned_in (without (behind_two line) line)) (rest_of line) (behind_two line)

-- a timestamp in milliseconds
abbrev pub time_of : Stamp → ℕ
time_of (Seconds time) = time
time_of (Instant time) = time

-- two timestamps that count from one zero
abbrev pub is_seconds : Stamp → Bool
is_seconds (Seconds time) = true
is_seconds (Instant time) = false

abbrev pub is_alike : Stamp → Stamp → Bool
is_alike (Seconds time) other = is_seconds other
is_alike (Instant time) other = if is_seconds other then false else true
