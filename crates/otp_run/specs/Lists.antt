-- Facts of each element of a list, by its place. (own)
use Rattle.std.specs.Prelude.{ℕ, ⊤, List, [], ◌∷◌, slice_get, IfSome}

-- each element has the fact of its place
abbrev pub AllAt : {A : Type 0} → (ℕ → A → Type 0) → List A → Type 0
AllAt {A} P xs = (k : ℕ) → IfSome (slice_get xs k) (P k)

-- each element has the fact
abbrev pub Each : {A : Type 0} → (A → Type 0) → List A → Type 0
Each P [] = ⊤
Each P (x ∷ xs) = P x × Each P xs
