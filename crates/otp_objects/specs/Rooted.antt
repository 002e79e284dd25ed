-- How the root fares where a child crashes so often, and which change is the least that helps, as an object of JSON (own).
use Rattle.std.specs.Prelude.{◌≡◌, ℕ, Bool, true, false, List, [], ◌∷◌, ◌++◌, Option, Some, None, codes, decimal}
use Rattle.std.specs.List.{flat_map}
use Rattle.otp_file.specs.Trees.{Tree}
use Rattle.otp_json.specs.Values.{key_text, number_member, optional_member, text_member}
use Rattle.otp_costs.specs.Falls.{supervisor_path}
use Rattle.otp_costs.specs.declared.limits.fate.Fate.{Fate}
use Rattle.otp_costs.specs.declared.limits.fate.Fate.TheVariants as fate
use Rattle.otp_suggest.specs.Levers.{FindsRoot, best_of}
use Rattle.otp_suggest.specs.declared.lever.Lever.{Lever}
use Rattle.otp_suggest.specs.declared.refused.SuggestionAnswer.{SuggestionAnswer}
use Rattle.otp_suggest.specs.declared.refused.SuggestionAnswer.TheVariants as reply
use Rattle.otp_suggest.specs.declared.remedy.Remedy.{Remedy}
use Rattle.otp_suggest.specs.declared.remedy.Remedy.TheVariants as remedy
use Rattle.otp_suggest.specs.declared.rooted.RootFinding.{RootFinding}
use Rattle.otp_suggest.specs.declared.rooted.RootFinding.TheVariants as finding
use Rattle.otp_suggest.specs.declared.rooted.Rooted.{Rooted}
use Rattle.otp_objects.specs.Values.{bool_member}

-- the file, the child, how often it crashes, and within which time
unfoldable pub crashing_text : List ℕ → List ℕ → ℕ → ℕ → List ℕ
crashing_text name child count time =
    text_member (codes "{") (codes "file") name ++ text_member (codes ", ") (codes "child") child
    ++ number_member (codes ", ") (codes "times") count ++ number_member (codes ", ") (codes "within") time

-- whether the root survives, how many crashes where the next one ends it, and the one after which the child isn't started again
abbrev pub survives : Fate → Bool
survives fate.Survived = true
survives (fate.Ended count) = false
survives (fate.Gone count) = true

abbrev pub survived_of : Fate → Option ℕ
survived_of fate.Survived = None
survived_of (fate.Ended count) = Some count
survived_of (fate.Gone count) = None

abbrev pub gone_after : Fate → Option ℕ
gone_after fate.Survived = None
gone_after (fate.Ended count) = None
gone_after (fate.Gone count) = Some count

unfoldable pub root_text : Fate → List ℕ
root_text root =
    bool_member (codes "root_survives") (survives root) ++ optional_member (codes ", ") (codes "survived") (survived_of root)
    ++ optional_member (codes ", ") (codes "gone_after") (gone_after root)

-- which intensity has the root survive: a word where none does
unfoldable pub remedy_value : ℕ → Remedy → List ℕ
remedy_value today remedy.Enough = decimal today
remedy_value today (remedy.Least intensity) = decimal intensity
remedy_value today remedy.Nowhere = codes "\"none\""

-- a supervisor, its intensity, and the least that is enough
unfoldable pub lever_value : Lever → List ℕ
lever_value lever =
    text_member (codes "{") (codes "supervisor") (supervisor_path lever.path) ++ number_member (codes ", ") (codes "intensity") lever.today
    ++ key_text (codes ", ") (codes "least") ++ remedy_value lever.today lever.remedy ++ codes "}"

unfoldable pub next_lever : Lever → List ℕ
next_lever lever = codes ", " ++ lever_value lever

unfoldable pub levers_value : List Lever → List ℕ
levers_value [] = codes "[]"
levers_value (lever ∷ levers) = codes "[" ++ lever_value lever ++ flat_map next_lever levers ++ codes "]"

-- the one whose change is the least: null where nothing has to be changed, or no change of one is enough
unfoldable pub best_value : Option Lever → List ℕ
best_value None = codes "null"
best_value (Some lever) = lever_value lever

unfoldable pub supervisors_text : List Lever → List ℕ
supervisors_text levers = key_text (codes ", ") (codes "supervisors") ++ levers_value levers

unfoldable pub least_text : Option Lever → List ℕ
least_text best = key_text (codes ", ") (codes "least_change") ++ best_value best

unfoldable pub changes_text : List Lever → List ℕ
changes_text levers = supervisors_text levers ++ least_text (best_of levers)

-- the whole
unfoldable pub rooted_value : List ℕ → List ℕ → ℕ → ℕ → Rooted → List ℕ
rooted_value name child count time rooted =
    crashing_text name child count time ++ root_text rooted.root ++ changes_text rooted.levers ++ codes "}\n"

-- what is told of what was found
abbrev pub TellsRootObject : List ℕ → List ℕ → ℕ → ℕ → RootFinding → SuggestionAnswer → List ℕ → List ℕ → Type 0
TellsRootObject name child count time (finding.Of rooted) answer before after =
    (answer ≡ reply.Told) × (after ≡ before ++ rooted_value name child count time rooted)
TellsRootObject name child count time finding.NoChild answer before after = (answer ≡ reply.NoChild) × (after ≡ before)
TellsRootObject name child count time finding.IsSupervisor answer before after = (answer ≡ reply.IsSupervisor) × (after ≡ before)

-- the child of a tree with this name crashes so often within a time: which change is the least that helps the root was told as an
-- object, or it was refused
abbrev pub SuggestsRootObject : List ℕ → Tree → List ℕ → ℕ → ℕ → SuggestionAnswer → List ℕ → List ℕ → Type 0
SuggestsRootObject name tree child count time answer before after =
    (found : RootFinding) × (FindsRoot tree child count found × TellsRootObject name child count time found answer before after)
