-- The lines of a text (own).
use Rattle.std.specs.Prelude.{ℕ, ◌==◌, List, count_by}
use Rattle.std.specs.List.{slice_split}

-- what stands before, between and behind the ends of lines
unfoldable pub lines_of : List ℕ → List (List ℕ)
lines_of text = slice_split (λ byte. byte == 10) text

-- how many ends of lines a text has
unfoldable pub ends_in : List ℕ → ℕ
ends_in text = count_by (λ byte. byte == 10) text
