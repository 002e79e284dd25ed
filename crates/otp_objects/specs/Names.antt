-- Lists of names as arrays of JSON (own).
use Rattle.std.specs.Prelude.{ℕ, List, [], ◌∷◌, ◌++◌, codes}
use Rattle.std.specs.List.{flat_map}
use Rattle.otp_costs.specs.Groups.{below}
use Rattle.otp_json.specs.Values.{json_text}
use Rattle.otp_reason.specs.declared.name.Name.{Name}

-- the name of a child, behind the path of its supervisor's children
unfoldable pub name_text : List ℕ → Name → List ℕ
name_text path name = json_text (below path name)

-- the name of a child behind another
unfoldable pub next_name : List ℕ → Name → List ℕ
next_name path name = codes ", " ++ name_text path name

-- the names of children of one supervisor
unfoldable pub names_text : List ℕ → List Name → List ℕ
names_text path [] = codes "[]"
names_text path (name ∷ names) = codes "[" ++ name_text path name ++ flat_map (next_name path) names ++ codes "]"

-- the path of a supervisor behind another
unfoldable pub next_path : List ℕ → List ℕ
next_path path = codes ", " ++ json_text path

-- the paths of supervisors
unfoldable pub paths_text : List (List ℕ) → List ℕ
paths_text [] = codes "[]"
paths_text (path ∷ paths) = codes "[" ++ json_text path ++ flat_map next_path paths ++ codes "]"
