-- A text is cut at its first end of a line.
use Rattle.std.proofs.Common.{◌≡◌, ◌∙◌, ℕ, ◌+◌, ◌==◌, ◌<◌, ◌≤◌, Bool, true, false, cond, List, [], ◌∷◌, ◌++◌, length, take, drop, Option, Some, None, IfNone, IfSome, position, refl, subst, ap, arith, sym}
use Rattle.std.specs.List.{slice_split, position_or_len, All, count_by}
use Rattle.std.proofs.lemmas.Bool.{ltb-true, ltb-false}
use Rattle.std.proofs.lemmas.List.Sums.{fails_before_first, sum_by_push}
use Rattle.std.proofs.lemmas.List.Elements.{All-from_get_or}
use Rattle.std.proofs.lemmas.List.Splits.{slice_split_none, slice_split_first, length-slice_split}
use Rattle.otp_logs.specs.Lines.{ends_in, lines_of}

-- what a search says that found nothing, or this place
not_found : (found : Bool) (place : ℕ) → cond found (Some place) None ≡ None → found ≡ false
not_found true place e = cc
not_found false place e = refl

found_at : (found : Bool) (place end : ℕ) → cond found (Some place) None ≡ Some end → (found ≡ true) × (place ≡ end)
found_at true place end e = (refl, cc)
found_at false place end e = cc

one_part : (p : ℕ → Bool) (text : List ℕ) → position p text ≡ None → slice_split p text ≡ text ∷ []
one_part p text e =
    let past : length text ≤ position_or_len p text = ltb-false _ _ (not_found _ _ e) in
    slice_split_none p text
    (All-from_get_or (λ byte. p byte ≡ false) text 0
    (λ i inside. let before : i < position_or_len p text = omega arith in fails_before_first p text i 0 before))

first_cut : (p : ℕ → Bool) (text : List ℕ) (end : ℕ) → position p text ≡ Some end
    → slice_split p text ≡ take end text ∷ slice_split p (drop (end + 1) text)
first_cut p text end e =
    let both = found_at _ _ end e in
    let inside : position_or_len p text < length text = ltb-true _ _ both.0 in
    let at : ℕ → Type 0 = λ k. slice_split p text ≡ take k text ∷ slice_split p (drop (k + 1) text) in
    subst at both.1 (slice_split_first p text 0 inside)

-- the first line, and the others
pub first_line : (text : List ℕ) (found : Option ℕ) → found ≡ position (λ byte. byte == 10) text
    → IfSome found (λ end. lines_of text ≡ take end text ∷ lines_of (drop (end + 1) text))
unfolding lines_of
first_line text None is = tt
first_line text (Some end) is = first_cut (λ byte. byte == 10) text end (sym is)

-- the last line
pub last_line : (text : List ℕ) (found : Option ℕ) → found ≡ position (λ byte. byte == 10) text
    → IfNone found (lines_of text ≡ text ∷ [])
unfolding lines_of
last_line text None is = one_part (λ byte. byte == 10) text (sym is)
last_line text (Some end) is = tt

length_more : (x : List ℕ) (xs : List (List ℕ)) → length (x ∷ xs) ≡ length xs + 1
length_more x xs = omega arith

-- a text has as many ends of lines as lines, but for the last
count_cut : (p : ℕ → Bool) (text : List ℕ) (end : ℕ) → position p text ≡ Some end → count_by p text ≡ count_by p (drop (end + 1) text) + 1
count_cut p text end e =
    let all : length (slice_split p text) ≡ count_by p text + 1 = length-slice_split p text in
    let others : length (slice_split p (drop (end + 1) text)) ≡ count_by p (drop (end + 1) text) + 1 = length-slice_split p (drop (end + 1) text) in
    let cut : length (slice_split p text) ≡ length (slice_split p (drop (end + 1) text)) + 1 =
    ap (λ (l : List (List ℕ)). length l) (first_cut p text end e) ∙ length_more (take end text) (slice_split p (drop (end + 1) text)) in
    omega arith

count_none : (p : ℕ → Bool) (text : List ℕ) → position p text ≡ None → count_by p text ≡ 0
count_none p text e =
    let all : length (slice_split p text) ≡ count_by p text + 1 = length-slice_split p text in
    let one : length (slice_split p text) ≡ 1 = ap (λ (l : List (List ℕ)). length l) (one_part p text e) in
    omega arith

pub first_end : (text : List ℕ) (found : Option ℕ) → found ≡ position (λ byte. byte == 10) text
    → IfSome found (λ end. ends_in text ≡ ends_in (drop (end + 1) text) + 1)
unfolding ends_in
first_end text None is = tt
first_end text (Some end) is = count_cut (λ byte. byte == 10) text end (sym is)

pub no_end : (text : List ℕ) (found : Option ℕ) → found ≡ position (λ byte. byte == 10) text → IfNone found (ends_in text ≡ 0)
unfolding ends_in
no_end text None is = count_none (λ byte. byte == 10) text (sym is)
no_end text (Some end) is = tt

-- a byte more
abbrev one_if : Bool → ℕ
one_if b = cond b 1 0

and_none : (n k : ℕ) → k ≡ 0 → n + k ≡ n
and_none n k e = omega arith

pub end_more : (text : List ℕ) → ends_in (text ++ 10 ∷ []) ≡ ends_in text + 1
unfolding ends_in
end_more text = sum_by_push (λ (byte : ℕ). one_if (byte == 10)) text 10

pub byte_more : (text : List ℕ) (byte : ℕ) → (byte == 10) ≡ false → ends_in (text ++ byte ∷ []) ≡ ends_in text
unfolding ends_in
byte_more text byte other =
    sum_by_push (λ (b : ℕ). one_if (b == 10)) text byte
    ∙ and_none (count_by (λ (b : ℕ). b == 10) text) (one_if (byte == 10)) (ap one_if other)
