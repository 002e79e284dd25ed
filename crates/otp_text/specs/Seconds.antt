-- Times in seconds (own).
use Rattle.std.specs.Prelude.{ℕ, ◌/◌, ◌%◌, List, [], ◌++◌, codes, decimal, if◌then◌else◌, nat_lt}

-- the zeros in front of a number below 1000, so that it has three digits
unfoldable pub zeros_before : ℕ → List ℕ
zeros_before n = if nat_lt n 10 then codes "00" else if nat_lt n 100 then codes "0" else []

-- a time in milliseconds, written in seconds
unfoldable pub seconds_text : ℕ → List ℕ
seconds_text time = decimal (time / 1000) ++ codes "." ++ zeros_before (time % 1000) ++ decimal (time % 1000)
