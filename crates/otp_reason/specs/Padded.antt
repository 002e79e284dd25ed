use Rattle.std.specs.Prelude.{ℕ, ◌-◌, List, ◌++◌, length, replicate}

-- the bytes, and zeros up to the size (own)
abbrev pub padded_to : ℕ → List ℕ → List ℕ
padded_to size bytes = bytes ++ replicate (size - length bytes) 0
