-- Supervisors that are put behind others.
use Rattle.std.specs.Prelude.{◌≡◌, ℕ, Bool, List, [], ◌∷◌, ◌++◌, refl}
use Rattle.std.specs.List.{flat_map}
use Rattle.std.proofs.Common.{◌∙◌, ap, append_assoc, append-nil, subst}
use Rattle.std.proofs.lemmas.Grind.{flat_map-append}
use Rattle.std.proofs.lemmas.List.{map_push}
use Rattle.otp_file.specs.Trees.{Table, Tree, tables_of}
use Rattle.otp_spec.specs.declared.child.ChildSpec.{ChildSpec}
use Rattle.otp_spec.specs.declared.flags.SupFlags.{SupFlags}
use Rattle.otp_trial.proofs.Pathings.{all_paths}
use Rattle.otp_trial.specs.Paths.{AddsPaths}
use Rattle.otp_trial.specs.Played.{AddsTables, AddsTree, ArePlanted, IsPlanted, Seated, paths_in, unplayed}

planted-append : (tells : Bool) (ts us : List Table) (xs ys : List Seated) → ArePlanted tells ts xs → ArePlanted tells us ys → ArePlanted tells (ts ++ us) (xs ++ ys)
planted-append tells [] us [] ys first second = second
planted-append tells [] us (x ∷ xs) ys first second = absurd first
planted-append tells (t ∷ ts) us [] ys first second = absurd first
planted-append tells (t ∷ ts) us (x ∷ xs) ys (here, rest) second = (here, planted-append tells ts us xs ys rest second)

-- the tables of these trees, and of one more
pub tables_more : (trees : List Tree) (tree : Tree) → flat_map tables_of (trees ++ tree ∷ []) ≡ flat_map tables_of trees ++ tables_of tree
tables_more trees tree = flat_map-append tables_of trees (tree ∷ []) ∙ ap (λ (ts : List Table). flat_map tables_of trees ++ ts) (append-nil (tables_of tree))

-- a tree was added behind what was added before
pub adds-then : (tells : Bool) (path : List ℕ) (tree : Tree) (tables : List Table) (a b c : List Seated) → AddsTables tells tables a b → AddsTree tells path tree b c
    → AddsTables tells (tables ++ tables_of tree) a c
adds-then tells path tree tables a b c (xs, ab, first) (ys, bc, below) =
    let root : Seated = unplayed tells path tree.flags tree.specs in (
      xs ++ root ∷ ys,
      bc ∙ ap (λ (s : List Seated). s ++ root ∷ ys) ab ∙ append_assoc a xs (root ∷ ys),
      planted-append tells tables (tables_of tree) xs (root ∷ ys) first (refl, below),
    )

-- the path of a supervisor that was put behind others stands behind theirs
pub is_behind : (tells : Bool) (path : List ℕ) (flags : SupFlags) (specs : List ChildSpec) (old new : List Seated) (seat : Seated)
    → seat ≡ unplayed tells path flags specs → new ≡ old ++ seat ∷ [] → paths_in new ≡ paths_in old ++ path ∷ []
is_behind tells path flags specs old new seat is added =
    ap (λ (s : List Seated). paths_in s) added
    ∙ (map_push (λ (s : Seated). s.path) old seat ∙ ap (λ (s : Seated). paths_in old ++ s.path ∷ []) is)

-- a whole tree was added where nothing stood
pub planted : (tells : Bool) (tree : Tree) (old seats : List Seated) → old ≡ [] → AddsTree tells [] tree old seats → AddsPaths [] tree (paths_in old) (paths_in seats)
    → IsPlanted tells tree seats
planted tells tree old seats none adds paths =
    let (found, is, walk) = subst (λ (s : List Seated). AddsPaths [] tree (paths_in s) (paths_in seats)) none paths in
    (subst (λ (s : List Seated). AddsTree tells [] tree s seats) none adds, is ∙ all_paths [] tree found walk)
