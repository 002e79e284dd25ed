-- Two lists whose elements a function can't tell apart.
use Rattle.std.proofs.Common.{◌≡◌, ℕ, suc, ◌<◌, List, [], ◌∷◌, length, map, refl, ap, ◌∙◌, arith}
use Rattle.std.specs.Prelude.{slice_index_or}

module _ {A B : Type 0} (f : A → B) where
  pub alike : (xs ys : List A) → length ys ≡ length xs → ((k : ℕ) (d : A) → k < length xs → f (slice_index_or ys k d) ≡ f (slice_index_or xs k d)) → map f ys ≡ map f xs
  alike [] [] long same = refl
  alike [] (y ∷ ys) long same = absurd (omega (arith, long))
  alike (x ∷ xs) [] long same = absurd (omega (arith, long))
  alike (x ∷ xs) (y ∷ ys) long same =
      let first : f y ≡ f x = same 0 x (omega arith) in
      ap (λ (b : B). b ∷ map f ys) first ∙ ap (λ (l : List B). f x ∷ l) (alike xs ys (omega (arith, long)) (λ k d within. same (suc k) d (omega (arith, within))))
