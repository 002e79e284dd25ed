-- Facts of each element of a list by its place, as elements are added and changed.
use Rattle.std.proofs.Common.{Some, None, ◌≡◌, ℕ, zero, suc, ◌+◌, ◌<◌, List, [], ◌∷◌, ◌++◌, length, set, get_or, map, refl, sym, ap, ◌∙◌, arith, add-zero}
use Rattle.std.specs.Prelude.{slice_get, IfSome}
use Rattle.otp_run.specs.Lists.{AllAt}
use Rattle.otp_run.specs.Schedulers.{numbers_from}

module _ {A : Type 0} where
  pub push_at : (P : ℕ → A → Type 0) (xs : List A) (x : A) → AllAt P xs → P (length xs) x → AllAt P (xs ++ x ∷ [])
  push_at P [] x all p zero = p
  push_at P [] x all p (suc k) = tt
  push_at P (y ∷ ys) x all p zero = all zero
  push_at P (y ∷ ys) x all p (suc k) = push_at (λ j. P (suc j)) ys x (λ j. all (suc j)) p k

  pub set_at : (P Q : ℕ → A → Type 0) (xs : List A) (k : ℕ) (y : A) → AllAt P xs → ((j : ℕ) (x : A) → ¬ (j ≡ k) → P j x → Q j x) → Q k y → AllAt Q (set xs k y)
  set_at P Q [] k y all others q j = tt
  set_at P Q (x ∷ xs) zero y all others q zero = q
  set_at P Q (x ∷ xs) zero y all others q (suc j) = elim (slice_get xs j) as (λ o. IfSome o (P (suc j)) → IfSome o (Q (suc j))) [ Some z ↦ (λ p. others (suc j) z (λ e. absurd (omega arith)) p) | None ↦ (λ _. tt) ] (all (suc j))
  set_at P Q (x ∷ xs) (suc k) y all others q zero = others zero x (λ e. absurd (omega arith)) (all zero)
  set_at P Q (x ∷ xs) (suc k) y all others q (suc j) = set_at (λ i. P (suc i)) (λ i. Q (suc i)) xs k y (λ i. all (suc i)) (λ i z apart p. others (suc i) z (λ e. apart (omega arith)) p) q j

  pub get_at : (P : ℕ → A → Type 0) (xs : List A) (k : ℕ) (d : A) → AllAt P xs → k < length xs → P k (get_or xs k d)
  get_at P [] k d all within = absurd (omega arith)
  get_at P (x ∷ xs) zero d all within = all zero
  get_at P (x ∷ xs) (suc k) d all within = get_at (λ j. P (suc j)) xs k d (λ j. all (suc j)) (omega arith)

  pub each_at : (P Q : ℕ → A → Type 0) (xs : List A) → AllAt P xs → ((j : ℕ) (x : A) → j < length xs → P j x → Q j x) → AllAt Q xs
  each_at P Q [] all then j = tt
  each_at P Q (x ∷ xs) all then zero = then zero x (omega arith) (all zero)
  each_at P Q (x ∷ xs) all then (suc j) = each_at (λ i. P (suc i)) (λ i. Q (suc i)) xs (λ i. all (suc i)) (λ i z within p. then (suc i) z (omega arith) p) j

module _ {A B : Type 0} (f : A → B) where
  pub map_at : (P : ℕ → B → Type 0) (xs : List A) → AllAt P (map f xs) → AllAt (λ k x. P k (f x)) xs
  map_at P [] all k = tt
  map_at P (x ∷ xs) all zero = all zero
  map_at P (x ∷ xs) all (suc k) = map_at (λ j. P (suc j)) xs (λ j. all (suc j)) k

pub numbers-push : (first k : ℕ) → numbers_from first (suc k) ≡ numbers_from first k ++ (first + k) ∷ []
numbers-push first zero = ap (λ n. n ∷ []) (sym (add-zero first))
numbers-push first (suc k) = ap (λ l. first ∷ l) (numbers-push (first + 1) k ∙ ap (λ n. numbers_from (first + 1) k ++ n ∷ []) (omega arith))

module _ {A B : Type 0} (f : A → B) where
  pub map-append : (xs ys : List A) → map f (xs ++ ys) ≡ map f xs ++ map f ys
  map-append [] ys = refl
  map-append (x ∷ xs) ys = ap (λ l. f x ∷ l) (map-append xs ys)
