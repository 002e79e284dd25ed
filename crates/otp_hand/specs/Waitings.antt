-- Processes that wait. (own)
use Rattle.std.specs.Prelude.{◌≡◌, ℕ, ◌+◌, ◌<◌, List, ◌∷◌, ◌++◌, length, slice_index_or}
use Rattle.std.specs.List.{swap_remove}

-- one of those that waited was taken out, and the last took its place
pub record IsTaken {A : Type 0} (taken : A) (old new : List A) : Type 0 where
  pub place : ℕ
  pub there : place < length old
  pub is : taken ≡ slice_index_or old place taken
  pub others : new ≡ swap_remove old place taken
  pub fewer : length new + 1 ≡ length old

-- one of those in front was taken out; the others stay, and so do those behind
pub record IsTakenInFront {A : Type 0} (taken : A) (old new : List A) : Type 0 where
  pub front : List A
  pub left : List A
  pub behind : List A
  pub was : old ≡ front ++ behind
  pub is : new ≡ left ++ behind
  pub out : IsTaken taken front left
  pub fewer : length new + 1 ≡ length old

-- it was put behind those in front, before the others
pub record IsPutInFront {A : Type 0} (put : A) (old new : List A) : Type 0 where
  pub front : List A
  pub behind : List A
  pub was : old ≡ front ++ behind
  pub is : new ≡ front ++ put ∷ behind
  pub more : length new ≡ length old + 1
