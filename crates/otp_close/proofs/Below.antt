-- Facts of the first elements of a list, one element more, and of all.
use Rattle.std.proofs.Common.{Some, None, ◌≡◌, ℕ, zero, suc, ◌+◌, ◌<◌, ◌≤◌, List, [], ◌∷◌, Option, length, sym, subst, arith}
use Rattle.std.specs.Prelude.{slice_get, IfSome}
use Rattle.std.proofs.lemmas.Option.{get_or_from_slice_get}
use Rattle.otp_run.specs.Lists.{AllAt}
use Rattle.otp_run.proofs.Places.{each_at}

module _ {A : Type 0} (P : A → Type 0) where
  past : (o : Option A) (k : ℕ) → IfSome o (λ x. suc k < 1 → P x)
  past (Some x) k = λ below. absurd (omega (arith, below))
  past None k = tt

  shift : (o : Option A) (k n : ℕ) → IfSome o (λ x. suc k < suc n → P x) → IfSome o (λ x. k < n → P x)
  shift (Some x) k n p = λ below. p (omega (arith, below))
  shift None k n p = tt

  back : (o : Option A) (k n : ℕ) → IfSome o (λ x. k < n + 1 → P x) → IfSome o (λ x. suc k < suc n + 1 → P x)
  back (Some x) k n p = λ below. p (omega (arith, below))
  back None k n p = tt

  pub below-more : (xs : List A) (n : ℕ) (y : A) → slice_get xs n ≡ Some y → P y → AllAt (λ k x. k < n → P x) xs → AllAt (λ k x. k < n + 1 → P x) xs
  below-more [] n y at p all j = tt
  below-more (x ∷ xs) zero y at p all zero = λ below. subst P (sym (get_or_from_slice_get (x ∷ xs) zero y x at)) p
  below-more (x ∷ xs) zero y at p all (suc j) = past (slice_get xs j) j
  below-more (x ∷ xs) (suc n) y at p all zero = λ below. all zero (omega arith)
  below-more (x ∷ xs) (suc n) y at p all (suc j) = back (slice_get xs j) j n (below-more xs n y at p (λ i. shift (slice_get xs i) i n (all (suc i))) j)

  pub below-all : (xs : List A) (n : ℕ) → length xs ≤ n → AllAt (λ k x. k < n → P x) xs → AllAt (λ k x. P x) xs
  below-all xs n long all = each_at (λ k x. k < n → P x) (λ k x. P x) xs all (λ j x within p. p (omega (arith, within, long)))

-- what holds of each number below one, and of that one, holds of each below the next
pub below-next : (P : ℕ → Type 0) (n : ℕ) → ((k : ℕ) → k < n → P k) → P n → (k : ℕ) → k < n + 1 → P k
below-next P zero all p zero within = p
below-next P zero all p (suc k) within = absurd (omega (arith, within))
below-next P (suc n) all p zero within = all zero (omega arith)
below-next P (suc n) all p (suc k) within = below-next (λ j. P (suc j)) n (λ j below. all (suc j) (omega (arith, below))) p k (omega (arith, within))
