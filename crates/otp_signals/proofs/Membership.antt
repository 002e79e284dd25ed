-- The lists' own words in the library's.
use Rattle.std.proofs.Common.{◌≡◌, ◌⊎◌, ⊎_elim, ℕ, zero, suc, ◌<◌, ◌==◌, ◌||◌, Bool, true, false, true≢false, eq-eqb, eqb-true, List, [], ◌∷◌, refl, sym, ap, ◌∙◌, inl, inr, arith}
use Rattle.std.specs.Prelude.{All, Contains}
use Rattle.std.proofs.lemmas.List.Elements.{All-nil, All-cons}
use Rattle.otp_signals.specs.Lists.{Below, Stands, has}

pub Stands-Contains : (x : ℕ) (xs : List ℕ) → Contains xs x → Stands x xs
Stands-Contains x [] c = absurd (let lt = c.1 in omega arith)
Stands-Contains x (y ∷ ys) (zero, lt, e) = inl (sym e)
Stands-Contains x (y ∷ ys) (suc k, lt, e) = inr (Stands-Contains x ys (k, omega arith, e))

pub Contains-Stands : (x : ℕ) (xs : List ℕ) → Stands x xs → Contains xs x
Contains-Stands x [] s = absurd s
Contains-Stands x (y ∷ ys) s = ⊎_elim
    (λ (e : x ≡ y). (0, omega arith, sym e))
    (λ (r : Stands x ys). let c = Contains-Stands x ys r in (suc c.0, (let lt = c.1 in omega arith), c.2))
    s

pub has-Contains : (x : ℕ) (xs : List ℕ) → Contains xs x → has x xs ≡ true
has-Contains x xs c = has-Stands x xs (Stands-Contains x xs c)
  where
    or_true : (b : Bool) → (b || true) ≡ true
    or_true true = refl
    or_true false = refl

    has-Stands : (x : ℕ) (xs : List ℕ) → Stands x xs → has x xs ≡ true
    has-Stands x [] s = absurd s
    has-Stands x (y ∷ ys) s = ⊎_elim
        (λ (e : x ≡ y). ap (λ b. b || has x ys) (eq-eqb x y e))
        (λ (r : Stands x ys). ap (λ b. (x == y) || b) (has-Stands x ys r) ∙ or_true (x == y))
        s

pub Contains-has : (x : ℕ) (xs : List ℕ) → has x xs ≡ true → Contains xs x
Contains-has x xs h = Contains-Stands x xs (Stands-has x xs h)
  where
    Stands-has : (x : ℕ) (xs : List ℕ) → has x xs ≡ true → Stands x xs
    Stands-has x [] h = absurd (true≢false (sym h))
    Stands-has x (y ∷ ys) h =
        (elim (x == y) as (λ b. (x == y) ≡ b → (b || has x ys) ≡ true → (x ≡ y) ⊎ Stands x ys) [
          | true ↦ λ e _. inl (eqb-true x y e)
          | false ↦ λ _ r. inr (Stands-has x ys r)
        ]) refl h

pub All-Below : (n : ℕ) (xs : List ℕ) → Below n xs → All (λ x. x < n) xs
All-Below n [] b = All-nil (λ x. x < n)
All-Below n (x ∷ xs) b = All-cons (λ y. y < n) x xs b.0 (All-Below n xs b.1)
