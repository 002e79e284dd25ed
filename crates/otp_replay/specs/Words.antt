-- Words of a line of a log (own).
use Rattle.std.specs.Prelude.{ℕ, Bool, true, false, not, ◌||◌, ◌==◌, List, [], ◌∷◌, Option, Some, None, drop, take, position}

-- a byte that stands between words
abbrev pub is_space : ℕ → Bool
is_space byte = (byte == 32) || (byte == 9) || (byte == 13)

-- what stands before a place, which is all where there is none
abbrev pub before : Option ℕ → List ℕ → List ℕ
before None text = text
before (Some place) text = take place text

-- what stands from a place on
abbrev pub from : Option ℕ → List ℕ → List ℕ
from None text = []
from (Some place) text = drop place text

-- a line from its first word on
unfoldable pub stripped : List ℕ → List ℕ
stripped line = from (position (λ byte. not (is_space byte)) line) line

-- the word at the beginning of a line, and what stands behind it
unfoldable pub word_of : List ℕ → List ℕ
word_of line = before (position is_space line) line

unfoldable pub rest_of : List ℕ → List ℕ
rest_of line = from (position is_space line) line

abbrev pub is_empty : List ℕ → Bool
is_empty [] = true
is_empty (byte ∷ text) = false
