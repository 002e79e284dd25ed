-- How long a word says (own).
use Rattle.std.specs.Prelude.{ℕ, ◌-◌, ◌*◌, ◌&&◌, Bool, List, Option, Some, None, codes, length, take, drop, nat_le, if◌then◌else◌}
use Rattle.std.specs.Str.{bytes_eq}
use Rattle.otp_text.specs.Words.{number_up_to}
use Rattle.otp_suggest.specs.declared.time.TheConstants.{MOST_UNITS}

-- a word ends with this text
abbrev pub ends_with : List ℕ → List ℕ → Bool
ends_with word end = nat_le (length end) (length word) && bytes_eq (drop (length word - length end) word) end

-- what stands before its last bytes
abbrev pub without : ℕ → List ℕ → List ℕ
without count word = take (length word - count) word

-- the number that stands before the unit, and how many milliseconds the unit has; without a unit it is of milliseconds
unfoldable pub split : List ℕ → List ℕ × ℕ
split word =
    if ends_with word (codes "ms") then (without 2 word, 1)
    else if ends_with word (codes "s") then (without 1 word, 1000)
    else if ends_with word (codes "m") then (without 1 word, 60000)
    else if ends_with word (codes "h") then (without 1 word, 3600000)
    else (word, 1)

unfoldable pub time_of : Option ℕ → ℕ → Option ℕ
time_of None unit = None
time_of (Some count) unit = Some (count * unit)

-- the time in milliseconds that a word says, if it says one
abbrev pub time_in : List ℕ → Option ℕ
time_in word = time_of (number_up_to MOST_UNITS (split word).0) (split word).1
