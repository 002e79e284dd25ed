-- Lists whose keys rise, each above the one before, whatever the key is.
use Rattle.std.proofs.Common.{◌≡◌, ℕ, ◌<◌, ◌≤◌, List, ap, arith, get_or, length, subst, inl, inr}
use Rattle.std.specs.Prelude.{AllPairs}
use Rattle.std.proofs.lemmas.Bool.{cases_lt}
use Rattle.std.proofs.lemmas.List.{get_or_default}

-- a later key is no lower
pub upto : {X : Type 0} (key : X → ℕ) (xs : List X) → AllPairs (λ one later. key one < key later) xs → (k m : ℕ) (d : X) → k ≤ m → m < length xs → key (get_or xs k d) ≤ key (get_or xs m d)
upto key xs rise k m d le within =
    elim (cases_lt k m) [
      | inl lt ↦ let less : key (get_or xs k d) < key (get_or xs m d) = rise k m d lt within in omega (arith, less)
      | inr ge ↦ let same : k ≡ m = omega (arith, le, ge) in subst (λ n. key (get_or xs k d) ≤ key (get_or xs n d)) same (omega arith)
    ]

-- a key that stands there doesn't depend on a default
pub key_default : {X : Type 0} (key : X → ℕ) (xs : List X) (m : ℕ) (d e : X) → m < length xs → key (get_or xs m d) ≡ key (get_or xs m e)
key_default key xs m d e within = ap key (get_or_default xs m d e within)
