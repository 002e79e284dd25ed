-- How far apart crashes are, as a word says it (own).
use Rattle.std.specs.Prelude.{ℕ, ◌==◌, List, Option, Some, None, Result, Ok, Err, nat_le, if◌then◌else◌}
use Rattle.otp_suggest.specs.Times.{time_in}
use Rattle.otp_suggest.specs.declared.gap.GapFault.{GapFault}
use Rattle.otp_suggest.specs.declared.gap.GapFault.TheVariants.{NoTime, Zero, TooLong}
use Rattle.otp_suggest.specs.declared.gap.TheConstants.{LONGEST_GAP}

-- so many milliseconds are an interval, unless they are none or too many
unfoldable pub gap_if : ℕ → Result ℕ GapFault
gap_if gap = if gap == 0 then Err Zero else if nat_le gap LONGEST_GAP then Ok gap else Err TooLong

unfoldable pub gap_of : Option ℕ → Result ℕ GapFault
gap_of None = Err NoTime
gap_of (Some gap) = gap_if gap

-- the interval in milliseconds that a word says
abbrev pub gap_in : List ℕ → Result ℕ GapFault
gap_in word = gap_of (time_in word)
