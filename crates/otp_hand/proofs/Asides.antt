-- Lists with some in front. (own)
use Rattle.std.proofs.Common.{◌≡◌, ℕ, suc, ◌+◌, ◌-◌, ◌<◌, List, [], ◌∷◌, ◌++◌, length, length-append, take, slice_index_or, slice_set, sym, subst, arith, ap, ◌∙◌}
use Rattle.std.specs.List.{swap_remove}
use Rattle.std.specs.Prelude.{Option, None, Some, MatchOption}
use Rattle.otp_hand.specs.Waitings.{IsTaken}

module _ {A : Type 0} where
  swapped_behind_one : (x : A) (ys : List A) (place : ℕ) (d : A) → place < length ys → swap_remove (x ∷ ys) (suc place) d ≡ x ∷ swap_remove ys place d
  swapped_behind_one x [] place d lt = absurd (omega (arith, lt))
  swapped_behind_one x (y ∷ ys) place d lt =
      let longer : suc (suc (length ys)) - 1 ≡ suc (length ys) = omega arith in
      let shorter : length ys ≡ suc (length ys) - 1 = omega arith in
      ap (λ n. take n (slice_set (x ∷ y ∷ ys) (suc place) (slice_index_or (x ∷ y ∷ ys) n d))) longer
      ∙ ap (λ n. x ∷ take n (slice_set (y ∷ ys) place (slice_index_or (y ∷ ys) n d))) shorter

  -- what is taken out behind others leaves those as they were
  pub swapped_behind : (front ys : List A) (place : ℕ) (d : A) → place < length ys → swap_remove (front ++ ys) (length front + place) d ≡ front ++ swap_remove ys place d
  swapped_behind [] ys place d lt = let none : 0 + place ≡ place = omega arith in ap (λ n. swap_remove ys n d) none
  swapped_behind (x ∷ front) ys place d lt =
      let one : suc (length front) + place ≡ suc (length front + place) = omega arith in
      ap (λ n. swap_remove (x ∷ front ++ ys) n d) one
      ∙ swapped_behind_one x (front ++ ys) (length front + place) d (omega (arith, length-append front ys, lt))
      ∙ ap (λ l. x ∷ l) (swapped_behind front ys place d lt)

  index_behind : (front ys : List A) (place : ℕ) (d : A) → slice_index_or (front ++ ys) (length front + place) d ≡ slice_index_or ys place d
  index_behind [] ys place d = let none : 0 + place ≡ place = omega arith in ap (λ n. slice_index_or ys n d) none
  index_behind (x ∷ front) ys place d =
      let one : suc (length front) + place ≡ suc (length front + place) = omega arith in
      ap (λ n. slice_index_or (x ∷ front ++ ys) n d) one ∙ index_behind front ys place d

  -- one of those behind was taken out
  taken_behind : (front ys ys' old : List A) (x : A) (place : ℕ) → front ++ ys ≡ old → place < length ys → x ≡ slice_index_or ys place x → ys' ≡ swap_remove ys place x → length ys' + 1 ≡ length ys → IsTaken x old (front ++ ys')
  taken_behind front ys ys' old x place was there is others fewer = record {
    place = length front + place;
    there = subst (λ l. length front + place < length l) was (omega (arith, length-append front ys, there));
    is = is ∙ sym (index_behind front ys place x) ∙ ap (λ l. slice_index_or l (length front + place) x) was;
    others = ap (λ l. front ++ l) others ∙ sym (swapped_behind front ys place x there) ∙ ap (λ l. swap_remove l (length front + place) x) was;
    fewer = omega (arith, fewer, length-append front ys', length-append front ys, ap length was);
  }

  -- one of those behind was taken out, or none
  pub told_behind : (front ys ys' old : List A) (r : Option A) → front ++ ys ≡ old → MatchOption r (ys' ≡ ys) (λ x. IsTaken x ys ys') → MatchOption r (front ++ ys' ≡ old) (λ x. IsTaken x old (front ++ ys'))
  told_behind front ys ys' old None was same = ap (λ l. front ++ l) same ∙ was
  told_behind front ys ys' old (Some x) was t = taken_behind front ys ys' old x t.place was t.there t.is t.others t.fewer
