-- What is kept of rows' numbers, so that most rows are found by one look.
use Rattle.std.specs.Prelude.{◌≡◌, ◌≤◌, ℕ, Option, Some}

-- no number stands at two places
abbrev pub AreApart : (ℕ → Option ℕ) → Type 0
AreApart number = (p q n : ℕ) → number p ≡ Some n → number q ≡ Some n → p ≡ q

-- no number is above this one
abbrev pub AreWithin : ℕ → (ℕ → Option ℕ) → Type 0
AreWithin greatest number = (p n : ℕ) → number p ≡ Some n → n ≤ greatest

-- the number, if it is one, stands nowhere but at this place
abbrev pub IsOnlyAt : ℕ → Option ℕ → (ℕ → Option ℕ) → Type 0
IsOnlyAt place new number = (q n : ℕ) → new ≡ Some n → number q ≡ Some n → q ≡ place

-- the bound of numbers with one more
abbrev pub IsBound : ℕ → Option ℕ → ℕ → Type 0
IsBound before new after = (before ≤ after) × ((n : ℕ) → new ≡ Some n → n ≤ after)
