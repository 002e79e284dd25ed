-- How words say how often a child crashes (own).
use Rattle.std.specs.Prelude.{◌≡◌, ◌⊎◌, ℕ, ◌==◌, List, Option, Some, None, Result, Ok, Err, if◌then◌else◌}
use Rattle.std.specs.Borrow.{Bor}
use Rattle.otp_text.specs.Words.{number_up_to}
use Rattle.otp_suggest.specs.Gaps.{gap_in}
use Rattle.otp_suggest.specs.declared.asked.Asked.{Asked}
use Rattle.otp_suggest.specs.declared.asked.Asked.TheVariants as asked
use Rattle.otp_suggest.specs.declared.course.Question.{Question}
use Rattle.otp_suggest.specs.declared.course.Question.TheVariants.{Every, Within}
use Rattle.otp_suggest.specs.declared.course.TheConstants.{MOST_TIMES}
use Rattle.otp_suggest.specs.declared.gap.GapFault.{GapFault}
use Rattle.otp_suggest.specs.declared.gap.GapFault.TheVariants.{NoCount}

-- how many crashes a word says: 1 to the most
unfoldable pub count_of : Option ℕ → Result ℕ GapFault
count_of None = Err NoCount
count_of (Some count) = if count == 0 then Err NoCount else Ok count

abbrev pub count_in : List ℕ → Result ℕ GapFault
count_in word = count_of (number_up_to MOST_TIMES word)

-- how many crashes there are, and within which time, as these words say it
abbrev pub IsBurst : Bor (List ℕ) → Bor (List ℕ) → ℕ → ℕ → Type 0
IsBurst times within count time = (count_in times.now ≡ Ok count) × (gap_in within.now ≡ Ok time)

-- what these words ask
abbrev pub Asks : Asked → Question → Type 0
Asks (asked.Every every) question = (gap : ℕ) × ((gap_in every.now ≡ Ok gap) × (question ≡ Every gap))
Asks (asked.Within times within) question =
    (count : ℕ) × (time : ℕ) × (IsBurst times within count time × (question ≡ Within count time))

-- this one of the words says nothing that can be asked
abbrev pub IsAmiss : Asked → Bor (List ℕ) → GapFault → Type 0
IsAmiss (asked.Every every) word why = (word ≡ every) × (gap_in every.now ≡ Err why)
IsAmiss (asked.Within times within) word why =
    ((word ≡ times) × (count_in times.now ≡ Err why)) ⊎ ((word ≡ within) × (gap_in within.now ≡ Err why))
