-- What is said of a tree, made of what is said of the trees below it (own).
use Prim.Native.Nat.{zero, suc}
use Rattle.std.specs.Prelude.{◌≡◌, ℕ, ◌-◌, ◌==◌, List, [], ◌∷◌, ◌++◌, Option, Some, None, codes, if◌then◌else◌}
use Rattle.std.specs.List.{flat_map}
use Rattle.otp_file.specs.Trees.{Tree, tables_of}
use Rattle.otp_reason.specs.Names.{name_bytes}
use Rattle.otp_spec.specs.declared.child.ChildSpec.{ChildSpec}
use Rattle.otp_spec.specs.declared.flags.SupFlags.{SupFlags}

-- what is said of one supervisor: the path of its children, its flags and children, and what is said of the trees of those at these
-- places
abbrev pub Written : Type 0
Written = List ℕ → SupFlags → List ChildSpec → List ℕ → List (List ℕ) → List ℕ

-- what is said of the tree of the child at this place, if it has one
abbrev pub sub_at : ℕ → List ℕ → List (List ℕ) → Option (List ℕ)
sub_at place [] each = None
sub_at place (other ∷ others) [] = None
sub_at place (other ∷ others) (piece ∷ each) = if other == place then Some piece else sub_at place others each

-- the id of the child at this place, with a `/` behind it
abbrev pub id_at : ℕ → List ChildSpec → List ℕ
id_at place [] = []
id_at place (spec ∷ specs) = if place == 0 then name_bytes spec.id ++ codes "/" else id_at (place - 1) specs

-- the path of its own children
abbrev pub path_below : List ℕ → List ChildSpec → ℕ → List ℕ
path_below path specs place = path ++ id_at place specs

-- what is said of each of these trees, those of the children at these places
abbrev pub AreSubs : (List ℕ → Tree → List ℕ → Type 0) → List ℕ → List ChildSpec → List ℕ → List Tree → List (List ℕ) → Type 0
AreSubs Is path specs [] [] [] = Unit {0}
AreSubs Is path specs (place ∷ places) (tree ∷ trees) (piece ∷ each) =
    Is (path_below path specs place) tree piece × AreSubs Is path specs places trees each
AreSubs Is path specs places trees each = ⊥

-- what is said of a tree of so many levels at the most, whose root's children have this path
abbrev pub IsPiece : Written → ℕ → List ℕ → Tree → List ℕ → Type 0
IsPiece written zero path tree piece = ⊥
IsPiece written (suc levels) path tree piece =
    (trees : List Tree) × (each : List (List ℕ))
    × (flat_map tables_of trees ≡ tree.below)
    × AreSubs (IsPiece written levels) path tree.specs tree.nested trees each
    × (piece ≡ written path tree.flags tree.specs tree.nested each)
