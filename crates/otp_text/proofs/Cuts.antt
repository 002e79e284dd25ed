-- A line is cut at its first space.
use Rattle.std.proofs.Common.{◌≡◌, ℕ, ◌+◌, ◌<◌, ◌≤◌, ◌==◌, Bool, true, false, cond, List, [], ◌∷◌, length, take, drop, Some, None, position, refl, subst, arith}
use Rattle.std.specs.List.{onto_first, position_or_len}
use Rattle.std.proofs.lemmas.Bool.{ltb-true, ltb-false}
use Rattle.std.proofs.lemmas.List.Sums.{fails_before_first}
use Rattle.std.proofs.lemmas.List.Elements.{All-from_get_or}
use Rattle.std.proofs.lemmas.List.Splits.{slice_split_none, slice_split_first}
use Rattle.otp_text.specs.Words.{words_of, no_words}

abbrev is_space : ℕ → Bool
is_space byte = byte == 32

onto_first_has_words : (byte : ℕ) (parts : List (List ℕ)) → no_words (onto_first byte parts) ≡ false
onto_first_has_words byte [] = refl
onto_first_has_words byte (_ ∷ _) = refl

-- each line has a word, be it an empty one
pub line_has_words : (line : List ℕ) → no_words (words_of line) ≡ false
line_has_words [] = refl
line_has_words (byte ∷ line) =
    elim (byte == 32) as (λ test. no_words (cond test ([] ∷ words_of line) (onto_first byte (words_of line))) ≡ false) [
      | true ↦ refl
      | false ↦ onto_first_has_words byte (words_of line)
    ]

-- what a search says that found nothing, or this place
not_found : (found : Bool) (place : ℕ) → cond found (Some place) None ≡ None → found ≡ false
not_found true place e = cc
not_found false place e = refl

found_at : (found : Bool) (place end : ℕ) → cond found (Some place) None ≡ Some end → (found ≡ true) × (place ≡ end)
found_at true place end e = (refl, cc)
found_at false place end e = cc

-- a line with no space is one word
pub one_word : (line : List ℕ) → position is_space line ≡ None → words_of line ≡ line ∷ []
one_word line e =
    let past : length line ≤ position_or_len is_space line = ltb-false _ _ (not_found _ _ e) in
    slice_split_none is_space line
    (All-from_get_or (λ byte. is_space byte ≡ false) line 0
    (λ i inside. let before : i < position_or_len is_space line = omega arith in fails_before_first is_space line i 0 before))

-- at the first space a word ends, and the others begin
pub first_cut : (line : List ℕ) (end : ℕ) → position is_space line ≡ Some end
    → words_of line ≡ take end line ∷ words_of (drop (end + 1) line)
first_cut line end e =
    let both = found_at _ _ end e in
    let inside : position_or_len is_space line < length line = ltb-true _ _ both.0 in
    let at : ℕ → Type 0 = λ k. words_of line ≡ take k line ∷ words_of (drop (k + 1) line) in
    subst at both.1 (slice_split_first is_space line 0 inside)
