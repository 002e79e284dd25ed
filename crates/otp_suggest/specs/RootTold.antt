-- How the root fares where a child crashes so often, and which change is the least that helps, as it is told (own).
use Rattle.std.specs.Prelude.{◌≡◌, ℕ, List, [], ◌++◌, Option, Some, None, codes, decimal}
use Rattle.std.specs.List.{flat_map}
use Rattle.otp_file.specs.Trees.{Tree}
use Rattle.otp_costs.specs.Table.{clip}
use Rattle.otp_costs.specs.Words.{at_left}
use Rattle.otp_costs.specs.Costs.{verdict_of}
use Rattle.otp_costs.specs.Falls.{supervisor_path}
use Rattle.otp_costs.specs.declared.limits.fate.Fate.{Fate}
use Rattle.otp_costs.specs.declared.limits.fate.Fate.TheVariants as fate
use Rattle.otp_costs.specs.declared.limits.steady.Verdict.{Verdict}
use Rattle.otp_costs.specs.declared.limits.steady.Verdict.TheVariants.{Falls, Lasts}
use Rattle.otp_suggest.specs.Levers.{FindsRoot, best_of}
use Rattle.otp_suggest.specs.Told.{times_text}
use Rattle.otp_suggest.specs.declared.lever.Lever.{Lever}
use Rattle.otp_suggest.specs.declared.refused.SuggestionAnswer.{SuggestionAnswer}
use Rattle.otp_suggest.specs.declared.refused.SuggestionAnswer.TheVariants as reply
use Rattle.otp_suggest.specs.declared.remedy.Remedy.{Remedy}
use Rattle.otp_suggest.specs.declared.remedy.Remedy.TheVariants as remedy
use Rattle.otp_suggest.specs.declared.rooted.RootFinding.{RootFinding}
use Rattle.otp_suggest.specs.declared.rooted.RootFinding.TheVariants as finding
use Rattle.otp_suggest.specs.declared.rooted.Rooted.{Rooted}

-- how the root fares: it survives them all; or so many, and the next one ends it; or after so many there is no child that could crash
unfoldable pub once_text : List ℕ
once_text = codes "at once, as nothing is closer together: "

unfoldable pub ends_text : ℕ → List ℕ
ends_text count = codes "root survives " ++ decimal count ++ codes " of them\n"

unfoldable pub gone_text : List ℕ → ℕ → List ℕ
gone_text name count = codes "root survives\n" ++ clip 30 name ++ codes " isn't started again after crash " ++ decimal count ++ codes "\n"

unfoldable pub fares_text : List ℕ → Fate → List ℕ
fares_text name fate.Survived = codes "root survives\n"
fares_text name (fate.Ended count) = ends_text count
fares_text name (fate.Gone count) = gone_text name count

-- which intensity has the root survive, in place of its own
unfoldable pub remedy_text : ℕ → Remedy → List ℕ
remedy_text today remedy.Enough = decimal today
remedy_text today (remedy.Least intensity) = decimal intensity
remedy_text today remedy.Nowhere = codes "none"

-- a line of the table: a supervisor, its intensity, and the least that is enough
unfoldable pub columns_text : List ℕ → List ℕ → List ℕ → List ℕ
columns_text above today least = at_left 42 above ++ at_left 12 today ++ least ++ codes "\n"

unfoldable pub heads_text : List ℕ
heads_text = columns_text (codes "supervisor") (codes "intensity") (codes "least")

unfoldable pub lever_text : Lever → List ℕ
lever_text lever = columns_text (clip 40 (supervisor_path lever.path)) (decimal lever.today) (remedy_text lever.today lever.remedy)

-- which change of one supervisor alone is the least
unfoldable pub instead_text : ℕ → Remedy → List ℕ
instead_text today remedy = remedy_text today remedy ++ codes " in place of " ++ decimal today ++ codes "\n"

unfoldable pub above_text : List ℕ → List ℕ
above_text path = clip 30 (supervisor_path path)

unfoldable pub with_text : ℕ → Remedy → List ℕ
with_text today remedy = codes " with intensity " ++ instead_text today remedy

unfoldable pub least_text : Lever → List ℕ
least_text lever = codes "least change: " ++ above_text lever.path ++ with_text lever.today lever.remedy

unfoldable pub change_text : Option Lever → List ℕ
change_text None = codes "no intensity of one supervisor alone is enough\n"
change_text (Some lever) = least_text lever

-- what has to be changed, where the root doesn't survive as it is
unfoldable pub levers_text : List Lever → List ℕ
levers_text levers = heads_text ++ flat_map lever_text levers ++ change_text (best_of levers)

unfoldable pub help_text : Verdict → List Lever → List ℕ
help_text Lasts levers = codes "nothing has to be changed\n"
help_text Falls levers = levers_text levers

-- the whole
unfoldable pub rooted_text : List ℕ → ℕ → ℕ → Rooted → List ℕ
rooted_text name count time rooted =
    times_text name count time ++ once_text ++ fares_text name rooted.root ++ help_text (verdict_of rooted.root) rooted.levers

-- what is told of what was found
abbrev pub TellsRoot : List ℕ → ℕ → ℕ → RootFinding → SuggestionAnswer → List ℕ → List ℕ → Type 0
TellsRoot name count time (finding.Of rooted) answer before after =
    (answer ≡ reply.Told) × (after ≡ before ++ rooted_text name count time rooted)
TellsRoot name count time finding.NoChild answer before after = (answer ≡ reply.NoChild) × (after ≡ before)
TellsRoot name count time finding.IsSupervisor answer before after = (answer ≡ reply.IsSupervisor) × (after ≡ before)

-- the child of a tree with this name crashes so often within a time: which change is the least that helps the root was told, or it
-- was refused
abbrev pub SuggestsRoot : Tree → List ℕ → ℕ → ℕ → SuggestionAnswer → List ℕ → List ℕ → Type 0
SuggestsRoot tree name count time answer before after =
    (found : RootFinding) × (FindsRoot tree name count found × TellsRoot name count time found answer before after)
