-- The path of each supervisor of a tree: what stands in front of the names of its children, as `sub/`.
use Rattle.std.specs.Prelude.{◌≡◌, ℕ, List, [], ◌∷◌, ◌++◌, Option, Some, None, codes, map, slice_get}
use Rattle.otp_file.specs.Trees.{Table, Tree, tables_of}
use Rattle.otp_reason.specs.Names.{name_bytes}
use Rattle.otp_spec.specs.declared.child.ChildSpec.{ChildSpec}

-- the path of a supervisor that is this child of the one with that path
abbrev pub path_under : List ℕ → Option ChildSpec → List ℕ
path_under path None = path
path_under path (Some spec) = path ++ name_bytes spec.id ++ codes "/"

-- the paths of those children of a supervisor that have a tree, in their order
abbrev pub paths_under : List ℕ → Table → List (List ℕ)
paths_under path t = map (λ place. path_under path (slice_get t.specs place)) t.nested

-- the paths of these tables. Those paths are awaited: the next table has the first, and then come the tables of its own children,
-- before the others'
abbrev pub paths_from : List (List ℕ) → List Table → List (List ℕ)
paths_from [] tables = []
paths_from (p ∷ ps) [] = []
paths_from (p ∷ ps) (t ∷ ts) = p ∷ paths_from (paths_under p t ++ ps) ts

-- the paths of a tree's supervisors by their numbers, of which the root has this one
unfoldable pub paths_of : List ℕ → List Table → List (List ℕ)
paths_of path tables = paths_from (path ∷ []) tables

-- these paths are those of a tree whose root has this one, wherever it stands among other tables
abbrev pub ArePaths : List ℕ → Tree → List (List ℕ) → Type 0
ArePaths path tree paths = (rest : List (List ℕ)) (more : List Table) → paths_from (path ∷ rest) (tables_of tree ++ more) ≡ paths ++ paths_from rest more

-- the paths of a tree whose root has this one were added
abbrev pub AddsPaths : List ℕ → Tree → List (List ℕ) → List (List ℕ) → Type 0
AddsPaths path tree old new = (paths : List (List ℕ)) × (new ≡ old ++ paths) × ArePaths path tree paths
