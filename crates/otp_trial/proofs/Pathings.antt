-- The paths of a tree, as they are awaited.
use Rattle.std.specs.Prelude.{◌≡◌, ◌+◌, ℕ, List, [], ◌∷◌, ◌++◌, Option, Some, ◌≤◌, drop, length, map, slice_get}
use Rattle.std.specs.Option.{option_map}
use Rattle.std.proofs.Common.{◌∙◌, ap, append_assoc, append-nil, arith, refl, subst, sym}
use Rattle.std.proofs.lemmas.List.{drop_all, drop_more, length-map}
use Rattle.std.proofs.lemmas.Option.{get_or_from_slice_get, slice_get-map, slice_get_within}
use Rattle.otp_file.specs.Trees.{Table, Tree, tables_of}
use Rattle.otp_trial.specs.Paths.{AddsPaths, ArePaths, path_under, paths_from, paths_of, paths_under}

-- of the paths that are awaited, those that are left are still awaited after these tables
abbrev pub AreUnder : List (List ℕ) → List (List ℕ) → List Table → List (List ℕ) → Type 0
AreUnder awaited left tables paths =
    (rest : List (List ℕ)) (more : List Table) → paths_from (awaited ++ rest) (tables ++ more) ≡ paths ++ paths_from (left ++ rest) more

-- what the root of a tree says
abbrev pub root_table : Tree → Table
root_table t = record { flags = t.flags; specs = t.specs; nested = t.nested }

-- nothing was walked yet
pub none_yet : (awaited : List (List ℕ)) → AreUnder awaited awaited [] []
none_yet awaited rest more = refl

-- the next path is that of the child that has the tree of this number
pub next_awaited : (path : List ℕ) (k place : ℕ) (t : Table) → slice_get t.nested k ≡ Some place
    → drop k (paths_under path t) ≡ path_under path (slice_get t.specs place) ∷ drop (k + 1) (paths_under path t)
next_awaited path k place t at =
    let f : ℕ → List ℕ = λ p. path_under path (slice_get t.specs p) in
    let here : slice_get (map f t.nested) k ≡ Some (f place) = slice_get-map f t.nested k ∙ ap (λ (o : Option ℕ). option_map f o) at in
    drop_more (map f t.nested) k (f place) (slice_get_within (map f t.nested) k (f place) here)
    ∙ ap (λ (l : List ℕ). l ∷ drop (k + 1) (map f t.nested)) (get_or_from_slice_get (map f t.nested) k (f place) (f place) here)

-- one more tree was walked
pub one_more : (awaited left : List (List ℕ)) (path : List ℕ) (later : List (List ℕ)) (tables : List Table) (tree : Tree) (paths more_paths : List (List ℕ))
    → AreUnder awaited left tables paths → left ≡ path ∷ later → ArePaths path tree more_paths
    → AreUnder awaited later (tables ++ tables_of tree) (paths ++ more_paths)
one_more awaited left path later tables tree paths more_paths before is_next walk rest more =
    let us : List Table = tables_of tree in
    ap (λ (ts : List Table). paths_from (awaited ++ rest) ts) (append_assoc tables us more)
    ∙ before rest (us ++ more)
    ∙ ap (λ (ps : List (List ℕ)). paths ++ paths_from (ps ++ rest) (us ++ more)) is_next
    ∙ ap (λ (ps : List (List ℕ)). paths ++ ps) (walk (later ++ rest) more)
    ∙ sym (append_assoc paths more_paths (paths_from (later ++ rest) more))

-- all trees of a supervisor's children were walked, and so its own
pub whole_tree : (path : List ℕ) (tree : Tree) (left paths : List (List ℕ))
    → left ≡ [] → AreUnder (paths_under path (root_table tree)) left tree.below paths → ArePaths path tree (path ∷ paths)
whole_tree path tree left paths none under rest more =
    ap (λ (ps : List (List ℕ)). path ∷ ps) (under rest more ∙ ap (λ (ps : List (List ℕ)). paths ++ paths_from (ps ++ rest) more) none)

-- no path is left once as many trees were walked as there are children that have one
pub none_left : (path : List ℕ) (k : ℕ) (t : Table) → length t.nested ≤ k → drop k (paths_under path t) ≡ []
none_left path k t all =
    let f : ℕ → List ℕ = λ p. path_under path (slice_get t.specs p) in
    let same : length (map f t.nested) ≡ length t.nested = length-map t.nested f in
    let within : length (map f t.nested) ≤ k = omega (arith, same, all) in
    drop_all k (map f t.nested) within

-- the paths of a file's tree
pub all_paths : (path : List ℕ) (tree : Tree) (paths : List (List ℕ)) → ArePaths path tree paths → paths ≡ paths_of path (tables_of tree)
unfolding paths_of
all_paths path tree paths walk =
    sym (ap (λ (ts : List Table). paths_from (path ∷ []) ts) (sym (append-nil (tables_of tree))) ∙ (walk [] [] ∙ append-nil paths))

-- the paths of these tables, the first trees of the children of a supervisor, were added behind its own
abbrev pub AddedUnder : List ℕ → ℕ → Table → List Table → List (List ℕ) → List (List ℕ) → Type 0
AddedUnder path number table tables before after =
    (paths : List (List ℕ)) × (after ≡ before ++ paths) × AreUnder (paths_under path table) (drop number (paths_under path table)) tables paths

pub added_more : (path : List ℕ) (number : ℕ) (t : Table) (tables : List Table) (tree : Tree) (before mid after : List (List ℕ)) (below : List ℕ) (at : ℕ)
    → slice_get t.nested number ≡ Some at → below ≡ path_under path (slice_get t.specs at)
    → AddedUnder path number t tables before mid → AddsPaths below tree mid after
    → AddedUnder path (number + 1) t (tables ++ tables_of tree) before after
added_more path number t tables tree before mid after below at nested is (paths, mid_is, under) (more, after_is, walk) =
    let awaited : List (List ℕ) = paths_under path t in
    let later : List (List ℕ) = drop (number + 1) awaited in
    let next : drop number awaited ≡ below ∷ later = next_awaited path number at t nested ∙ ap (λ (p : List ℕ). p ∷ later) (sym is) in (
      paths ++ more,
      after_is ∙ (ap (λ (ps : List (List ℕ)). ps ++ more) mid_is ∙ append_assoc before paths more),
      one_more awaited (drop number awaited) below later tables tree paths more under next walk,
    )

pub added_all : (path : List ℕ) (number : ℕ) (tree : Tree) (old before after : List (List ℕ)) (tables : List Table)
    → before ≡ old ++ path ∷ [] → length tree.nested ≤ number → tables ≡ tree.below
    → AddedUnder path number (root_table tree) tables before after
    → AddsPaths path tree old after
added_all path number tree old before after tables before_is all all_tables (paths, after_is, under) =
    let awaited : List (List ℕ) = paths_under path (root_table tree) in
    let below : AreUnder awaited (drop number awaited) tree.below paths =
    subst (λ (ts : List Table). AreUnder awaited (drop number awaited) ts paths) all_tables under in (
      path ∷ paths,
      after_is ∙ (ap (λ (ps : List (List ℕ)). ps ++ paths) before_is ∙ append_assoc old (path ∷ []) paths),
      whole_tree path tree (drop number awaited) paths (none_left path number (root_table tree) all) below,
    )
