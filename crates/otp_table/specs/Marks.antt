-- Rows by a key: their number, or the fingerprint of their id.
use Rattle.std.specs.Prelude.{◌≡◌, ◌⊎◌, ◌<◌, ◌≤◌, ◌-◌, nat_lt, if◌then◌else◌, ℕ, List, [], ◌∷◌, AllPairs, get_or, length, Option, None, Some}
use Prim.Native.Nat.{zero, suc}
use Rattle.otp_table.specs.declared.marks.Mark.{Mark}
use Rattle.otp_table.specs.declared.row.Row.{Row}
use Rattle.otp_table.specs.Keys.{id_key}
use Rattle.otp_table.specs.Rows.{number_of}

-- the place stands under this key
abbrev pub IsUnder : ℕ → ℕ → List Mark → Type 0
IsUnder n p [] = ⊥
IsUnder n p (m ∷ ms) = ((m.key ≡ n) × (m.place ≡ p)) ⊎ IsUnder n p ms

-- the mark that stands there has the key
abbrev pub HasKey : ℕ → ℕ → List Mark → Type 0
HasKey n i ms = (i < length ms) × ((d : Mark) → (get_or ms i d).key ≡ n)

-- the keys rise, so that each stands once
abbrev pub Rises : List Mark → Type 0
Rises ms = AllPairs (λ one later. one.key < later.key) ms

-- the key of the row at a place, if there is such a row and it has one
abbrev pub key_at : (Row → Option ℕ) → List Row → ℕ → Option ℕ
key_at key [] p = None
key_at key (row ∷ rows) zero = key row
key_at key (row ∷ rows) (suc p) = key_at key rows p

-- a row's number
abbrev pub number_key : Row → Option ℕ
number_key row = number_of row.state

-- the number of the row at a place, and the fingerprint of its id
abbrev pub number_at : List Row → ℕ → Option ℕ
number_at = key_at number_key

abbrev pub id_at : List Row → ℕ → Option ℕ
id_at = key_at id_key

-- these are exactly the places that have a key, each under it
abbrev pub AreMarks : (ℕ → Option ℕ) → List Mark → Type 0
AreMarks key ms = (n p : ℕ) → (IsUnder n p ms → key p ≡ Some n) × (key p ≡ Some n → IsUnder n p ms)

-- no place stands under this key
abbrev pub IsFree : Option ℕ → List Mark → Type 0
IsFree key ms = (n p : ℕ) → key ≡ Some n → IsUnder n p ms → ⊥

-- the place now stands under the key too, and all else stays
abbrev pub IsPut : ℕ → ℕ → List Mark → List Mark → Type 0
IsPut key place old new = (n p : ℕ) → (IsUnder n p new → ((key ≡ n) × (place ≡ p)) ⊎ IsUnder n p old) × (((key ≡ n) × (place ≡ p)) ⊎ IsUnder n p old → IsUnder n p new)

-- nothing stands under the key any more, and all else stays
abbrev pub IsTaken : ℕ → List Mark → List Mark → Type 0
IsTaken key old new = (n p : ℕ) → (IsUnder n p new → IsUnder n p old × (n ≡ key → ⊥)) × (IsUnder n p old → (n ≡ key → ⊥) → IsUnder n p new)

-- the mark once the row at the place is taken out
abbrev pub moved : ℕ → Mark → Mark
moved place m = record m { place = if nat_lt place m.place then m.place - 1 else m.place }

-- marks of places follow where one place has another key
abbrev pub IsChanged : ℕ → Option ℕ → Option ℕ → List Mark → List Mark → Type 0
IsChanged place old new before after =
    (f g : ℕ → Option ℕ) → AreMarks f before → f place ≡ old → g place ≡ new → ((q : ℕ) → (q ≡ place → ⊥) → g q ≡ f q) → AreMarks g after

-- marks of places follow where one is taken out, and those above it move down
abbrev pub IsGone : ℕ → Option ℕ → List Mark → List Mark → Type 0
IsGone place old before after =
    (f g : ℕ → Option ℕ) → AreMarks f before → f place ≡ old → ((q : ℕ) → q < place → g q ≡ f q) → ((q : ℕ) → place ≤ q → g q ≡ f (suc q)) → AreMarks g after
