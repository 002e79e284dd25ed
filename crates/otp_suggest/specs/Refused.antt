-- What is refused, and why (own).
use Rattle.std.specs.Prelude.{ℕ, List, [], ◌++◌, codes}
use Rattle.otp_suggest.specs.declared.gap.GapFault.{GapFault}
use Rattle.otp_suggest.specs.declared.gap.GapFault.TheVariants.{NoTime, Zero, TooLong, NoCount}
use Rattle.otp_suggest.specs.declared.refused.SuggestionAnswer.{SuggestionAnswer}
use Rattle.otp_suggest.specs.declared.refused.SuggestionAnswer.TheVariants.{Told, NoChild, IsSupervisor}

-- what is said of a word that says no time, or no number of crashes, behind it
unfoldable pub fault_text : GapFault → List ℕ
fault_text NoTime = codes "is no time: write 500ms, 2s, 5m or 1h"
fault_text Zero = codes "is no time at all: write 1ms or more"
fault_text TooLong = codes "is too long: at most 1073741824 ms, some 12 days"
fault_text NoCount = codes "is no number of crashes from 1 to 1000"

-- there is no child with this name
unfoldable pub unfound_text : List ℕ
unfound_text = codes "no child is found by the name "

unfoldable pub no_child_text : List ℕ → List ℕ
no_child_text name = unfound_text ++ name ++ codes "\n"

-- the child with this name is a supervisor
unfoldable pub instead_text : List ℕ
instead_text = codes " is a supervisor: it crashes where its children do, so name one of them, as "

unfoldable pub is_supervisor_text : List ℕ → List ℕ
is_supervisor_text name = name ++ instead_text ++ name ++ codes "/worker\n"

-- what is said where no suggestion was told of the child with this name
unfoldable pub refusal_text : List ℕ → SuggestionAnswer → List ℕ
refusal_text name Told = []
refusal_text name NoChild = no_child_text name
refusal_text name IsSupervisor = is_supervisor_text name
