-- What is read in one pass is what the words say.
use Rattle.std.proofs.Common.{◌≡◌, ◌∙◌, ℕ, zero, suc, ◌+◌, ◌-◌, ◌*◌, ◌^◌, ◌<◌, ◌≤◌, ◌==◌, ◌++◌, nat_le, Bool, true, false, List, [], ◌∷◌, Option, Some, None, length, take, drop, get_or, codes, refl, ap, arith, lit<, le-leb, length-take, length-take-le, take-append-drop, sym, subst}
use Rattle.std.specs.List.{list_all}
use Rattle.std.specs.Option.{option_map}
use Rattle.std.specs.Str.Parse.{digits_value}
use Rattle.std.specs.Char.{digit_value}
use Rattle.std.specs.Int.{IsInRange}
use Rattle.std.proofs.lemmas.Bool.Decides.{nat_tests}
use Rattle.std.proofs.lemmas.Int.Digits.{digits_value-lt, digits_value_more}
use Rattle.std.proofs.lemmas.List.{take_more}
use Rattle.std.proofs.lemmas.List.Folds.{list_all-append}
use Rattle.std.proofs.lemmas.Slice.Eq.{bytes_eq-Decides}
use Rattle.std.proofs.lemmas.Str.{digit_value_digit}
use Rattle.std.proofs.Math.Nat.{pow-le-pow_right}
use Rattle.otp_reason.specs.declared.reason.Reason.{Reason}
use Rattle.otp_reason.specs.declared.reason.Reason.TheVariants as reason
use Rattle.otp_reason.specs.Texts.{is_lawful_text, is_text_byte, text_of}
use Rattle.otp_spec.specs.declared.limits.TheConstants.{MAX_READING}
use Rattle.otp_text.specs.declared.digits.TheConstants.{FEW_DIGITS}
use Rattle.otp_text.specs.declared.word.TheConstants.{MOST_DIGITS}
use Rattle.otp_text.specs.Lines.{number_in, number_and_reason, one_number, with_number}
use Rattle.otp_text.specs.Values.{reason_text}
use Rattle.otp_text.specs.Words.{◌>>=◌, words_of, only_word, is_digit, is_decimal, number_up_to, reason_in, one_reason, begins_with}
use Rattle.otp_text.proofs.Numbers.{all_digits, both, digit_in_range}

digit_is_no_space : (byte : ℕ) → is_digit byte ≡ true → (byte == 32) ≡ false
digit_is_no_space byte e = grind (arith, nat_tests)

text_is_no_space : (byte : ℕ) → is_text_byte byte ≡ true → (byte == 32) ≡ false
text_is_no_space byte e = grind (arith, nat_tests)

-- bytes that are no spaces are one word
one_word : (test : ℕ → Bool) → ((byte : ℕ) → test byte ≡ true → (byte == 32) ≡ false)
    → (line : List ℕ) → list_all test line ≡ true → words_of line ≡ line ∷ []
one_word test apart [] e = refl
one_word test apart (byte ∷ line) e =
    let parts = both (test byte) (list_all test line) e in
    rw (apart byte parts.0, one_word test apart line parts.1) refl

pub digits_are_a_word : (line : List ℕ) → list_all is_digit line ≡ true → words_of line ≡ line ∷ []
digits_are_a_word line e = one_word is_digit digit_is_no_space line e

-- digits end with the space behind them
pub digits_are_cut : (line : List ℕ) (count : ℕ) → count < length line → list_all is_digit (take count line) ≡ true → get_or line count 0 ≡ 32
    → words_of line ≡ take count line ∷ words_of (drop (count + 1) line)
digits_are_cut [] count inside e space = absurd (omega arith)
digits_are_cut (byte ∷ line) zero inside e space =
    let here : (byte == 32) ≡ true = ap (λ b. b == 32) space in
    rw here refl
digits_are_cut (byte ∷ line) (suc count) inside e space =
    let parts = both (is_digit byte) (list_all is_digit (take count line)) e in
    let before : count < length line = omega arith in
    let next : suc count + 1 ≡ suc (count + 1) = omega arith in
    rw (next, digit_is_no_space byte parts.0, digits_are_cut line count before parts.1 space) refl

-- the digits so far, and one more
pub one_digit_more : (line : List ℕ) (i : ℕ) → i < length line → list_all is_digit (take i line) ≡ true → is_digit (get_or line i 0) ≡ true
    → list_all is_digit (take (i + 1) line) ≡ true
one_digit_more line i inside before here =
    rw (take_more line i 0 inside, list_all-append is_digit (take i line) (get_or line i 0 ∷ []), before, here) refl

pub one_value_more : (line : List ℕ) (i : ℕ) → i < length line → is_digit (get_or line i 0) ≡ true
    → digits_value 10 (take (i + 1) line) ≡ digits_value 10 (take i line) * 10 + (get_or line i 0 - 48)
one_value_more line i inside here =
    let range : IsInRange 48 57 (get_or line i 0) = digit_in_range (get_or line i 0) here in
    let value : digit_value (get_or line i 0) ≡ get_or line i 0 - 48 = omega (arith, digit_value_digit (get_or line i 0) range) in
    rw (digits_value_more 10 line i inside, value) refl

-- few digits write a small number
pub few_are_small : (line : List ℕ) (i : ℕ) → i ≤ FEW_DIGITS → list_all is_digit (take i line) ≡ true → digits_value 10 (take i line) < 10 ^ FEW_DIGITS
few_are_small line i few e =
    let all : digits_value 10 (take i line) < 10 ^ length (take i line) = digits_value-lt 10 (take i line) (all_digits (take i line) e) in
    let short : length (take i line) ≤ FEW_DIGITS = omega (arith, length-take i line) in
    let power : 10 ^ length (take i line) ≤ 10 ^ FEW_DIGITS = pow-le-pow_right (lit< tt) short in
    omega arith

pub one_more_fits : (line : List ℕ) (i number digit : ℕ) → i < length line → i < FEW_DIGITS → list_all is_digit (take i line) ≡ true
    → number ≡ digits_value 10 (take i line) → is_digit (get_or line i 0) ≡ true → digit ≡ get_or line i 0 - 48 → number * 10 + digit < 10 ^ FEW_DIGITS
one_more_fits line i number digit inside few before now here worth =
    let further : i + 1 ≤ FEW_DIGITS = omega arith in
    let fits : digits_value 10 (take (i + 1) line) < 10 ^ FEW_DIGITS = few_are_small line (i + 1) further (one_digit_more line i inside before here) in
    let more = one_value_more line i inside here in
    omega (arith, fits, more, now, worth)

pub one_more_value : (line : List ℕ) (i number digit : ℕ) → i < length line → number ≡ digits_value 10 (take i line) → is_digit (get_or line i 0) ≡ true
    → digit ≡ get_or line i 0 - 48 → number * 10 + digit ≡ digits_value 10 (take (i + 1) line)
one_more_value line i number digit inside now here worth =
    let more = one_value_more line i inside here in
    omega (arith, more, now, worth)

-- such digits are a number, if the first isn't a zero
decimal_is : (word : List ℕ) → 1 ≤ length word → length word ≤ MOST_DIGITS → list_all is_digit word ≡ true → (get_or word 0 0 == 48) ≡ false
    → is_decimal word ≡ true
unfolding is_decimal
decimal_is word some most digits first =
    let least : nat_le 1 (length word) ≡ true = le-leb 1 (length word) some in
    let within : nat_le (length word) MOST_DIGITS ≡ true = le-leb (length word) MOST_DIGITS most in
    rw (least, within, digits, first) refl

first_of : (line : List ℕ) (count : ℕ) → 0 < count → get_or (take count line) 0 0 ≡ get_or line 0 0
first_of line zero some = absurd (omega arith)
first_of [] (suc count) some = refl
first_of (byte ∷ line) (suc count) some = refl

pub few_are_a_number : (line : List ℕ) (count : ℕ) → 0 < count → count ≤ length line → count ≤ FEW_DIGITS → list_all is_digit (take count line) ≡ true
    → (get_or line 0 0 == 48) ≡ false → number_in (take count line) ≡ Some (digits_value 10 (take count line))
unfolding number_in number_up_to
few_are_a_number line count some inside few digits first =
    let long : length (take count line) ≡ count = length-take-le count line inside in
    let one : 1 ≤ length (take count line) = omega arith in
    let most : length (take count line) ≤ MOST_DIGITS = omega arith in
    let start : (get_or (take count line) 0 0 == 48) ≡ false = ap (λ byte. byte == 48) (first_of line count some) ∙ first in
    let decimal : is_decimal (take count line) ≡ true = decimal_is (take count line) one most digits start in
    let small : digits_value 10 (take count line) < 10 ^ FEW_DIGITS = few_are_small line count few digits in
    let limit : digits_value 10 (take count line) ≤ MAX_READING = omega arith in
    let within : nat_le (digits_value 10 (take count line)) MAX_READING ≡ true = le-leb (digits_value 10 (take count line)) MAX_READING limit in
    rw (decimal, within) refl

-- a number alone, and one before a reason
pub number_alone : (line : List ℕ) (number : ℕ) → list_all is_digit line ≡ true → number_in line ≡ Some number → one_number (words_of line) ≡ Some number
unfolding one_number only_word
number_alone line number digits value = rw (digits_are_a_word line digits) value

behind : (found : Option Reason) (number : ℕ) → ◌>>=◌ {B = ℕ × Reason} found (λ reason. Some (number, reason)) ≡ option_map (λ reason. (number, reason)) found
behind None number = refl
behind (Some reason) number = refl

in_word : (word : Option (List ℕ)) (number : ℕ)
    → ◌>>=◌ {B = ℕ × Reason} word (λ second. ◌>>=◌ {B = ℕ × Reason} (reason_in second) (λ reason. Some (number, reason))) ≡ option_map (λ reason. (number, reason)) (word >>= reason_in)
in_word None number = refl
in_word (Some word) number = behind (reason_in word) number

pub number_then_reason : (line word rest : List ℕ) (number : ℕ) → words_of line ≡ word ∷ words_of rest → number_in word ≡ Some number
    → number_and_reason (words_of line) ≡ with_number number (one_reason (words_of rest))
unfolding number_and_reason one_reason with_number
number_then_reason line word rest number cut value = rw (cut, value) (in_word (only_word (words_of rest)) number)

-- an error holds no space
pub error_alone : (term : List ℕ) → is_lawful_text term ≡ true
    → one_reason (words_of (codes "error:" ++ term)) ≡ Some (reason.Error (text_of term))
unfolding one_reason only_word reason_in reason_text
error_alone term lawful =
    let bytes : list_all is_text_byte term ≡ true = (both _ (list_all is_text_byte term) lawful).1 in
    let word : words_of term ≡ term ∷ [] = one_word is_text_byte text_is_no_space term bytes in
    rw (word, lawful) refl

pub error_line : (line : List ℕ) → begins_with (codes "error:") line ≡ true → is_lawful_text (drop 6 line) ≡ true
    → one_reason (words_of line) ≡ Some (reason.Error (text_of (drop 6 line)))
error_line line begins lawful =
    let front : take 6 line ≡ codes "error:" = (bytes_eq-Decides (take 6 line) (codes "error:")).0 begins in
    let whole : codes "error:" ++ drop 6 line ≡ line = ap (λ (f : List ℕ). f ++ drop 6 line) (sym front) ∙ take-append-drop 6 line in
    subst (λ (l : List ℕ). one_reason (words_of l) ≡ Some (reason.Error (text_of (drop 6 line)))) whole (error_alone (drop 6 line) lawful)
