-- Numbers of at most MOST_DIGITS fit their word.
use Rattle.std.proofs.Common.{◌≡◌, ℕ, ◌+◌, ◌-◌, ◌*◌, ◌^◌, ◌<◌, ◌≤◌, ◌&&◌, nat_le, Bool, true, false, List, [], ◌∷◌, length, take, get_or, refl, arith, lit<, lit≤}
use Rattle.std.specs.List.{list_all}
use Rattle.std.specs.Str.Parse.{digits_value, AllDigits}
use Rattle.std.specs.Char.{digit_value}
use Rattle.std.specs.Int.{IsInRange}
use Rattle.std.proofs.lemmas.Bool.Decides.{nat_tests}
use Rattle.std.proofs.lemmas.Str.{digit_value_digit}
use Rattle.std.proofs.lemmas.Str.Parse.{digit_at}
use Rattle.std.proofs.lemmas.Int.Digits.{digits_value-lt, digits_value_more}
use Rattle.std.proofs.lemmas.Bool.{leb-true}
use Rattle.std.proofs.lemmas.Str.Parse.{digits_value-take-le}
use Rattle.std.proofs.Math.Nat.{pow-le-pow_right}
use Rattle.otp_text.specs.declared.word.TheConstants.{MOST_DIGITS}
use Rattle.otp_text.specs.Words.{is_digit, is_decimal}

pub both : (a b : Bool) → (a && b) ≡ true → (a ≡ true) × (b ≡ true)
both true b e = (refl, e)
both false b e = cc

pub digit_in_range : (byte : ℕ) → is_digit byte ≡ true → IsInRange 48 57 byte
digit_in_range byte e = grind (arith, nat_tests)

digit_small : (byte : ℕ) → is_digit byte ≡ true → digit_value byte < 10
digit_small byte e =
    let range : IsInRange 48 57 byte = digit_in_range byte e in
    omega (arith, digit_value_digit byte range)

pub all_digits : (word : List ℕ) → list_all is_digit word ≡ true → AllDigits 10 word
all_digits [] e = tt
all_digits (byte ∷ word) e =
    let parts = both (is_digit byte) (list_all is_digit word) e in
    (digit_small byte parts.0, all_digits word parts.1)

-- what a decimal number is made of
pub decimal_digits : (word : List ℕ) → is_decimal word ≡ true → list_all is_digit word ≡ true
unfolding is_decimal
decimal_digits word e = (both _ (list_all is_digit word) (both _ _ e).0).1

pub decimal_short : (word : List ℕ) → is_decimal word ≡ true → length word ≤ MOST_DIGITS
unfolding is_decimal
decimal_short word e = leb-true (length word) MOST_DIGITS (both _ (nat_le (length word) MOST_DIGITS) (both _ _ (both _ _ e).0).0).1

-- the digit at a place, and the number up to it
pub digit_here : (word : List ℕ) (i : ℕ) → is_decimal word ≡ true → i < length word → IsInRange 48 57 (get_or word i 0)
digit_here word i e inside = digit_at word i (all_digits word (decimal_digits word e)) inside

pub number_more : (word : List ℕ) (i : ℕ) → is_decimal word ≡ true → i < length word
    → digits_value 10 (take (i + 1) word) ≡ digits_value 10 (take i word) * 10 + (get_or word i 0 - 48)
number_more word i e inside =
    let range : IsInRange 48 57 (get_or word i 0) = digit_here word i e inside in
    let value : digit_value (get_or word i 0) ≡ get_or word i 0 - 48 = omega (arith, digit_value_digit (get_or word i 0) range) in
    rw (digits_value_more 10 word i inside, value) refl

pub number_small : (word : List ℕ) (i : ℕ) → is_decimal word ≡ true → digits_value 10 (take i word) < 10 ^ MOST_DIGITS
number_small word i e =
    let upto : digits_value 10 (take i word) ≤ digits_value 10 word = digits_value-take-le 10 word i (lit≤ tt) in
    let all : digits_value 10 word < 10 ^ length word = digits_value-lt 10 word (all_digits word (decimal_digits word e)) in
    let power : 10 ^ length word ≤ 10 ^ MOST_DIGITS = pow-le-pow_right (lit< tt) (decimal_short word e) in
    omega arith

-- one digit more still fits a word of 64 bits
pub number_fits : (word : List ℕ) (i value : ℕ) → is_decimal word ≡ true → i < length word → value ≡ digits_value 10 (take i word)
    → value * 10 + (get_or word i 0 - 48) < 10 ^ MOST_DIGITS
number_fits word i value e inside same =
    let more = number_more word i e inside in
    let small = number_small word (i + 1) e in
    let step : digits_value 10 (take (i + 1) word) ≡ value * 10 + (get_or word i 0 - 48) = rw same more in
    rw (← step) small
