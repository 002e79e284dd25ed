-- Lines of at most 80 columns (own).
use Rattle.std.specs.Prelude.{ℕ, ◌-◌, ◌==◌, nat_le, List, [], ◌∷◌, ◌++◌, codes, drop, length, take, if◌then◌else◌}
use Rattle.otp_try.specs.declared.remarks.fit.TheConstants.{BACK, FRONT, WIDTH}

-- so many bytes of the beginning of a line and so many of its end, and between them dots
unfoldable pub ends_text : ℕ → ℕ → List ℕ → List ℕ
ends_text front back line = take front line ++ codes "..." ++ drop (length line - back) line

-- a line; of a longer one the middle is left out
unfoldable pub fitted : List ℕ → List ℕ
fitted line = if nat_le (length line) WIDTH then line else ends_text FRONT BACK line

-- the lines of a text, of which the first has begun so
abbrev pub fit : List ℕ → List ℕ → List ℕ
fit line [] = fitted line
fit line (byte ∷ bytes) = if byte == 10 then fitted line ++ byte ∷ fit [] bytes else fit (line ++ byte ∷ []) bytes
