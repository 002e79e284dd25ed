use Rattle.std.specs.Prelude.{ℕ, ◌+◌, ◌-◌, List, drop, length}

-- the stamps that count for the next restart, and those that show an end: the last of all, one more than the intensity,
-- or all where there are fewer (own)
abbrev pub kept_of : ℕ → List ℕ → List ℕ
kept_of intensity stamps = drop (length stamps - (intensity + 1)) stamps
