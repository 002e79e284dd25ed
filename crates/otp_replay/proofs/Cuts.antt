-- A text is cut at its first byte of a kind.
use Rattle.std.proofs.Common.{◌≡◌, ℕ, ◌+◌, ◌<◌, ◌≤◌, Bool, true, false, cond, List, [], ◌∷◌, length, take, drop, Option, Some, None, position, refl, subst, arith}
use Rattle.std.specs.List.{slice_split, position_or_len, All}
use Rattle.std.proofs.lemmas.Bool.{ltb-true, ltb-false}
use Rattle.std.proofs.lemmas.List.Sums.{fails_before_first}
use Rattle.std.proofs.lemmas.List.Elements.{All-from_get_or}
use Rattle.std.proofs.lemmas.List.Splits.{slice_split_none, slice_split_first}

-- what a search says that found nothing, or this place
not_found : (found : Bool) (place : ℕ) → cond found (Some place) None ≡ None → found ≡ false
not_found true place e = cc
not_found false place e = refl

found_at : (found : Bool) (place end : ℕ) → cond found (Some place) None ≡ Some end → (found ≡ true) × (place ≡ end)
found_at true place end e = (refl, cc)
found_at false place end e = cc

-- a text with no such byte is one part
pub one_part : (p : ℕ → Bool) (text : List ℕ) → position p text ≡ None → slice_split p text ≡ text ∷ []
one_part p text e =
    let past : length text ≤ position_or_len p text = ltb-false _ _ (not_found _ _ e) in
    slice_split_none p text
    (All-from_get_or (λ byte. p byte ≡ false) text 0
    (λ i inside. let before : i < position_or_len p text = omega arith in fails_before_first p text i 0 before))

-- at the first such byte a part ends, and the others begin
pub first_cut : (p : ℕ → Bool) (text : List ℕ) (end : ℕ) → position p text ≡ Some end
    → slice_split p text ≡ take end text ∷ slice_split p (drop (end + 1) text)
first_cut p text end e =
    let both = found_at _ _ end e in
    let inside : position_or_len p text < length text = ltb-true _ _ both.0 in
    let at : ℕ → Type 0 = λ k. slice_split p text ≡ take k text ∷ slice_split p (drop (k + 1) text) in
    subst at both.1 (slice_split_first p text 0 inside)
