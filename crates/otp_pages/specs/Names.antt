-- Names of children and supervisors in a page (own).
use Rattle.std.specs.Prelude.{ℕ, List, [], ◌∷◌, ◌++◌, codes}
use Rattle.std.specs.List.{flat_map}
use Rattle.otp_costs.specs.Groups.{below}
use Rattle.otp_pages.specs.Markup.{element}
use Rattle.otp_reason.specs.declared.name.Name.{Name}

-- the name of a child, behind the path of its supervisor's children
unfoldable pub name_html : List ℕ → Name → List ℕ
name_html path name = element (codes "<code>") (below path name) (codes "</code>")

-- the name of a child behind another
unfoldable pub next_name : List ℕ → Name → List ℕ
next_name path name = codes ", " ++ name_html path name

-- the names of children of one supervisor
unfoldable pub names_html : List ℕ → List Name → List ℕ
names_html path [] = codes "<small>nothing</small>"
names_html path (name ∷ names) = name_html path name ++ flat_map (next_name path) names

-- the path of a supervisor
unfoldable pub path_html : List ℕ → List ℕ
path_html path = element (codes "<code>") path (codes "</code>")

-- the path of a supervisor behind another
unfoldable pub next_path : List ℕ → List ℕ
next_path path = codes ", then " ++ path_html path

-- the paths of supervisors that give up one after the other
unfoldable pub some_paths : List ℕ → List (List ℕ) → List ℕ
some_paths path paths = codes "<small>through " ++ path_html path ++ flat_map next_path paths ++ codes "</small>"

-- the same, if there are some
unfoldable pub paths_html : List (List ℕ) → List ℕ
paths_html [] = []
paths_html (path ∷ paths) = some_paths path paths
