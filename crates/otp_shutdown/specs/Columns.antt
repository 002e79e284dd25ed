-- Texts in columns (own).
use Rattle.std.specs.Prelude.{ℕ, ◌-◌, List, ◌++◌, length, codes, drop, replicate, nat_le, if◌then◌else◌}

-- a text at the left of a column, or at its right
unfoldable pub at_left : ℕ → List ℕ → List ℕ
at_left width text = text ++ replicate (width - length text) 32

unfoldable pub at_right : ℕ → List ℕ → List ℕ
at_right width text = replicate (width - length text) 32 ++ text

-- a text, or of one that is longer than so many bytes, its last ones behind dots
unfoldable pub clip : ℕ → List ℕ → List ℕ
clip width text = if nat_le (length text) width then text else codes "..." ++ drop (length text - (width - 3)) text
