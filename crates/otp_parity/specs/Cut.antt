-- How a transcript is written, and what it shows.
use Rattle.std.specs.Prelude.{◌≡◌, ℕ, List, ◌∷◌, ◌++◌, codes}
use Rattle.otp_parity.specs.Prints.{Prints}

-- the parts of a transcript, one after another
abbrev pub whole : List ℕ → List ℕ → List ℕ → List ℕ → List ℕ → List ℕ
whole name origin tree lines orders =
    name ++ 10 ∷ origin ++ 10 ∷ tree ++ codes "-- lines\n" ++ lines ++ codes "-- orders\n" ++ orders

-- the text is a transcript whose orders are those that the definitions print for its lines on its tree
pub record Shows (text : List ℕ) : Type 0 where
  pub name : List ℕ
  pub origin : List ℕ
  pub tree : List ℕ
  pub lines : List ℕ
  pub orders : List ℕ
  pub cut : text ≡ whole name origin tree lines orders
  pub prints : Prints tree lines orders
