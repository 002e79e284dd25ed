-- Times at the beginning of a text, by their form alone (own).
use Rattle.std.specs.Prelude.{ℕ, Bool, true, false, not, ◌&&◌, ◌||◌, ◌==◌, nat_le, List, [], ◌∷◌, codes, drop, position, if◌then◌else◌}
use Rattle.otp_logs.specs.Words.{begins, from}

abbrev pub is_digit : ℕ → Bool
is_digit byte = nat_le 48 byte && nat_le byte 57

-- a byte is what a form has in its place: a 0 stands for a digit
unfoldable pub fits_byte : ℕ → ℕ → Bool
fits_byte mark byte = if mark == 48 then is_digit byte else byte == mark

-- a text begins as a form
abbrev pub fits : List ℕ → List ℕ → Bool
fits [] text = true
fits (mark ∷ marks) [] = false
fits (mark ∷ marks) (byte ∷ text) = fits_byte mark byte && fits marks text

-- what stands behind digits
unfoldable pub behind_digits : List ℕ → List ℕ
behind_digits text = from (position (λ byte. not (is_digit byte)) text) text

-- what stands behind a part of a second, if one is there
unfoldable pub behind_fraction : List ℕ → List ℕ
behind_fraction text = if begins (codes ".") text || begins (codes ",") text then behind_digits (drop 1 text) else text

-- what stands behind how far a clock is from UTC, if that is there
unfoldable pub behind_zone : List ℕ → List ℕ
behind_zone text =
    if begins (codes "Z") text then drop 1 text
    else if fits (codes "+00:00") text || fits (codes "-00:00") text then drop 6 text
    else if fits (codes "+0000") text || fits (codes "-0000") text then drop 5 text
    else text

-- a time of the day, as 20:49:00.125, and what stands behind it
abbrev pub is_clock : List ℕ → Bool
is_clock text = fits (codes "00:00:00") text

unfoldable pub behind_clock : List ℕ → List ℕ
behind_clock text = behind_fraction (drop 8 text)

-- a text begins with the first letters of a month
unfoldable pub is_month : List ℕ → Bool
is_month text =
    begins (codes "Jan") text || begins (codes "Feb") text || begins (codes "Mar") text || begins (codes "Apr") text
    || begins (codes "May") text || begins (codes "Jun") text || begins (codes "Jul") text || begins (codes "Aug") text
    || begins (codes "Sep") text || begins (codes "Oct") text || begins (codes "Nov") text || begins (codes "Dec") text

-- a day without its year and a time of the day, as Nov 26 20:49:00, and what stands behind them
unfoldable pub is_stamp : List ℕ → Bool
is_stamp text = is_month text && (fits (codes " 00 00:00:00") (drop 3 text) || fits (codes "  0 00:00:00") (drop 3 text))

unfoldable pub behind_stamp : List ℕ → List ℕ
behind_stamp text = behind_fraction (drop 15 text)

-- a date and a time of the day, as 2026-11-26T20:49:00.125Z, and what stands behind them
unfoldable pub is_moment : List ℕ → Bool
is_moment text = fits (codes "0000-00-00T00:00:00") text || fits (codes "0000-00-00 00:00:00") text

unfoldable pub behind_moment : List ℕ → List ℕ
behind_moment text = behind_zone (behind_fraction (drop 19 text))
