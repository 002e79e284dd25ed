-- Times as a script writes them (own).
use Rattle.std.specs.Prelude.{ℕ, ◌+◌, ◌*◌, ◌-◌, ◌/◌, ◌^◌, ◌==◌, Bool, not, ◌&&◌, ◌||◌, List, [], ◌∷◌, Option, Some, None, Result, Ok, Err, codes, drop, if◌then◌else◌, min, nat_le, position, take}
use Rattle.std.specs.List.{list_all, list_any}
use Rattle.std.specs.Option.{option_map}
use Rattle.std.specs.Str.{bytes_eq}
use Rattle.otp_spec.specs.declared.limits.TheConstants.{MAX_READING}
use Rattle.otp_text.specs.Words.{is_digit, number_up_to}
use Rattle.otp_script.specs.Read.{◌>>=◌, or_fault}
use Rattle.otp_script.specs.Spaced.{word_in}
use Rattle.otp_script.specs.declared.fault.ScriptFault.{ScriptFault}
use Rattle.otp_script.specs.declared.fault.ScriptFault.TheVariants.{BadTime, LargeTime}
use Rattle.otp_script.specs.declared.time.TheConstants.{MOST_UNITS}
use Rattle.otp_script.specs.declared.time.Unit.{Unit}
use Rattle.otp_script.specs.declared.time.Unit.TheVariants as unit

-- the unit of a word
unfoldable pub unit_of : List ℕ → Option Unit
unit_of word =
    if bytes_eq word (codes "ms") then Some unit.Millisecond
    else if bytes_eq word (codes "s") then Some unit.Second
    else if bytes_eq word (codes "m") then Some unit.Minute
    else if bytes_eq word (codes "h") then Some unit.Hour
    else None

-- how many milliseconds it has
unfoldable pub milliseconds_in : Unit → ℕ
milliseconds_in unit.Millisecond = 1
milliseconds_in unit.Second = 1000
milliseconds_in unit.Minute = 60000
milliseconds_in unit.Hour = 3600000

-- the greatest number of it that may be written
unfoldable pub most_of : Unit → ℕ
most_of unit.Millisecond = MAX_READING
most_of unit.Second = MOST_UNITS
most_of unit.Minute = MOST_UNITS
most_of unit.Hour = MOST_UNITS

-- so many of it, in milliseconds
unfoldable pub scaled : Unit → ℕ → ℕ
scaled u count = min (count * milliseconds_in u) (2 ^ 64 - 1)

-- how much a digit says; nothing where it is none
unfoldable pub digit_value : ℕ → ℕ
digit_value byte = if nat_le 48 byte && nat_le byte 57 then byte - 48 else 0

abbrev pub is_no_digit : ℕ → Bool
is_no_digit byte = not (nat_le 48 byte && nat_le byte 57)

unfoldable pub thousandths_of : List ℕ → Option ℕ
thousandths_of (one ∷ []) = Some (digit_value one * 100)
thousandths_of (one ∷ two ∷ []) = Some (digit_value one * 100 + digit_value two * 10)
thousandths_of (one ∷ two ∷ three ∷ []) = Some (digit_value one * 100 + digit_value two * 10 + digit_value three)
thousandths_of _ = None

-- the thousandths that one to three digits behind a point say
unfoldable pub thousandths_in : List ℕ → Option ℕ
thousandths_in digits = if list_any is_no_digit digits then None else thousandths_of digits

-- why the digits of a time can't be read: they say too much, or no number
unfoldable pub fault_of_number : List ℕ → ScriptFault
fault_of_number [] = BadTime
fault_of_number (first ∷ others) = if nat_le 49 first && nat_le first 57 && list_all is_digit others then LargeTime else BadTime

-- so many of this unit, in milliseconds
unfoldable pub time_of : List ℕ → Unit → Result ℕ ScriptFault
time_of number u = or_fault (fault_of_number number) (option_map (scaled u) (number_up_to (most_of u) number))

-- so many thousandths of this unit more
unfoldable pub with_thousandths : Unit → ℕ → ℕ → ℕ
with_thousandths u time count = min (time + count * milliseconds_in u / 1000) (2 ^ 64 - 1)

unfoldable pub time_and : List ℕ → List ℕ → Unit → Result ℕ ScriptFault
time_and whole fraction u = time_of whole u >>= λ time. or_fault BadTime (option_map (with_thousandths u time) (thousandths_in fraction))

-- so many of this unit and a fraction of it; a millisecond has no fraction
unfoldable pub time_with : List ℕ → List ℕ → Unit → Result ℕ ScriptFault
time_with whole fraction unit.Millisecond = Err BadTime
time_with whole fraction u = time_and whole fraction u

-- a time in this unit, of a number whose point stands at this place, if it has one
unfoldable pub time_at_point : Option ℕ → List ℕ → Unit → Result ℕ ScriptFault
time_at_point None number u = time_of number u
time_at_point (Some place) number u = time_with (take place number) (drop (place + 1) number) u

-- the time that a number says, which may have a point
unfoldable pub time_counted : List ℕ → Unit → Result ℕ ScriptFault
time_counted number u = time_at_point (position (λ byte. byte == 46) number) number u

-- a byte of the number of a time
unfoldable pub is_of_number : ℕ → Bool
is_of_number byte = nat_le 48 byte && nat_le byte 57 || byte == 46

unfoldable pub split_at : Option ℕ → List ℕ → List ℕ × List ℕ
split_at None word = (word, [])
split_at (Some place) word = (take place word, drop place word)

-- a word as its number, and what stands behind that
unfoldable pub split_unit : List ℕ → List ℕ × List ℕ
split_unit word = split_at (position (λ byte. not (is_of_number byte)) word) word

-- this unit, behind which so much is left, if it is one; or else milliseconds, of the whole line
unfoldable pub unit_or : Option Unit → List ℕ → List ℕ → Unit × List ℕ
unit_or None rest line = (unit.Millisecond, line)
unit_or (Some u) rest line = (u, rest)

unfoldable pub unit_found : Option (List ℕ × List ℕ) → List ℕ → Unit × List ℕ
unit_found None line = (unit.Millisecond, line)
unit_found (Some found) line = unit_or (unit_of found.0) found.1 line

-- the unit that is the next word, and what is left after it; milliseconds where the next word is none
unfoldable pub next_unit : List ℕ → Unit × List ℕ
next_unit line = unit_found (word_in line) line

-- so many of this unit, behind which so much is left of the line
unfoldable pub time_before : List ℕ → Unit → List ℕ → Result (ℕ × List ℕ) ScriptFault
time_before number u rest = time_counted number u >>= λ time. Ok (time, rest)

-- a number behind which this stands in its word: its unit, or nothing, where the unit may be the next word
unfoldable pub time_split : List ℕ → List ℕ → List ℕ → Result (ℕ × List ℕ) ScriptFault
time_split number [] rest = time_before number (next_unit rest).0 (next_unit rest).1
time_split number (byte ∷ bytes) rest = or_fault BadTime (unit_of (byte ∷ bytes)) >>= λ u. time_before number u rest

-- a time whose number stands at the beginning of this word, and what is left of the line after the time
unfoldable pub time_in : List ℕ → List ℕ → Result (ℕ × List ℕ) ScriptFault
time_in word rest = time_split (split_unit word).0 (split_unit word).1 rest

unfoldable pub time_found : Option (List ℕ × List ℕ) → Result (ℕ × List ℕ) ScriptFault
time_found None = Err BadTime
time_found (Some found) = time_in found.0 found.1

-- a time that stands next on a line, and what is left after it
unfoldable pub next_time : List ℕ → Result (ℕ × List ℕ) ScriptFault
next_time line = time_found (word_in line)
