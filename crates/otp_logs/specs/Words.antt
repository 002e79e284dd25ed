-- Words of a line, and what stands behind some bytes (own).
use Rattle.std.specs.Prelude.{ℕ, Bool, true, false, not, ◌||◌, ◌==◌, List, [], ◌∷◌, Option, Some, None, drop, length, position, take, if◌then◌else◌}
use Rattle.std.specs.List.{starts_with}

-- a byte that stands between words
abbrev pub is_blank : ℕ → Bool
is_blank byte = (byte == 32) || (byte == 9) || (byte == 13) || (byte == 10)

-- what stands before a place, which is all where there is none
abbrev pub before : Option ℕ → List ℕ → List ℕ
before None text = text
before (Some place) text = take place text

-- what stands from a place on
abbrev pub from : Option ℕ → List ℕ → List ℕ
from None text = []
from (Some place) text = drop place text

-- a text from its first word on
unfoldable pub stripped : List ℕ → List ℕ
stripped text = from (position (λ byte. not (is_blank byte)) text) text

-- the word at the beginning of a text, and what stands behind it from the next word on
unfoldable pub word_of : List ℕ → List ℕ
word_of text = before (position is_blank text) text

unfoldable pub behind_word : List ℕ → List ℕ
behind_word text = stripped (from (position is_blank text) text)

-- a text begins with these bytes
unfoldable pub begins : List ℕ → List ℕ → Bool
begins bytes text = starts_with ◌==◌ text bytes

-- a text from the first place on from which it is so
abbrev pub first_tail : (List ℕ → Bool) → List ℕ → List ℕ
first_tail p [] = []
first_tail p (byte ∷ text) = if p (byte ∷ text) then byte ∷ text else first_tail p text

-- a text from the first place of these bytes on; nothing where they don't stand in it
unfoldable pub from_bytes : List ℕ → List ℕ → List ℕ
from_bytes bytes text = first_tail (λ rest. begins bytes rest) text

abbrev pub is_empty : List ℕ → Bool
is_empty [] = true
is_empty (byte ∷ text) = false

-- these bytes stand in a text
unfoldable pub has : List ℕ → List ℕ → Bool
has bytes text = not (is_empty (from_bytes bytes text))

-- what stands behind the first of them
unfoldable pub behind : List ℕ → List ℕ → List ℕ
behind bytes text = drop (length bytes) (from_bytes bytes text)
