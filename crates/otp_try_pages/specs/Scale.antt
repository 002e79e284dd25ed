-- Where a time stands in a picture of a run, in thousandths of its width (own).
use Rattle.std.specs.Prelude.{ℕ, ◌+◌, ◌-◌, ◌*◌, ◌/◌, ◌%◌, ◌^◌, Bool, ◌&&◌, List, [], ◌∷◌, ◌++◌, codes, decimal, max, min, nat_le, if◌then◌else◌}

-- a time of a run that ends at the last: the run takes 960 thousandths, and what happens at its end has the rest
unfoldable pub slot_of : ℕ → ℕ → ℕ
slot_of last time = min (min time last * 960 / max last 1) 960

-- so many thousandths as a percentage
unfoldable pub percent : ℕ → List ℕ
percent slot = decimal (slot / 10) ++ codes "." ++ decimal (slot % 10)

-- a count by one more; counts end at the greatest number
abbrev pub next_count : ℕ → ℕ
next_count count = min (count + 1) (2 ^ 64 - 1)

-- a time in milliseconds, by the digits of one in seconds that has three behind its point
unfoldable pub is_digit : ℕ → Bool
is_digit byte = nat_le 48 byte && nat_le byte 57

unfoldable pub with_digit : ℕ → ℕ → ℕ
with_digit total byte = if is_digit byte then min (min (total * 10) (2 ^ 64 - 1) + (byte - 48)) (2 ^ 64 - 1) else total

abbrev pub millis_from : ℕ → List ℕ → ℕ
millis_from total [] = total
millis_from total (byte ∷ bytes) = millis_from (with_digit total byte) bytes
