-- The paths of a tree's supervisors. (own)
use Rattle.std.specs.Prelude.{◌≡◌, ℕ, ◌-◌, List, [], ◌∷◌, ◌++◌, Bool, Option, Some, None, codes, length, bytes_eq, slice_get, take}
use Rattle.otp_reason.specs.Names.{name_bytes}
use Rattle.otp_reason.specs.declared.name.Name.{Name}
use Rattle.otp_draft.specs.Drawings.{Drawing, Alone, Worker, Bridge, Above, Template, tree_of}
use Rattle.otp_draft.specs.Trees.{Tree}
use Rattle.otp_draft.specs.declared.paths.Nested.{Nested}

-- the path of a supervisor whose children have this in front of their ids: the root's is `root`, another's the ids from the
-- root's child on, as `pool/cache`
unfoldable pub path_text : List ℕ → List ℕ
path_text [] = codes "root"
path_text (byte ∷ bytes) = take (length bytes) (byte ∷ bytes)

-- what its children have in front of their ids, where it is the child with this id of one whose children have that
abbrev pub prefix_below : List ℕ → Name → List ℕ
prefix_below prefix id = prefix ++ name_bytes id ++ codes "/"

-- what the children of each supervisor have in front of their ids, in the order of the walk, where those of the top have this
abbrev pub prefixes : {J S : Type 0} → List ℕ → Drawing J S → List (List ℕ)
prefixes prefix (Alone flags) = prefix ∷ []
prefixes prefix (Worker d spec job) = prefixes prefix d
prefixes prefix (Bridge d spec subsystem) = prefixes prefix d
prefixes prefix (Above d spec sub) = prefixes prefix d ++ prefixes (prefix_below prefix spec.id) sub
prefixes prefix (Template d spec) = prefixes prefix d

abbrev pub or_none : Option (List ℕ) → List ℕ
or_none None = []
or_none (Some prefix) = prefix

-- what the children of the next supervisor have in front, which is this child of the one so many places before it
abbrev pub next_prefix : List (List ℕ) → Nested → List ℕ
next_prefix before one = prefix_below (or_none (slice_get before (length before - one.behind))) one.id

-- what the children of all of these have in front, behind those that stand before them
abbrev pub prefixes_behind : List (List ℕ) → List Nested → List (List ℕ)
prefixes_behind before [] = before
prefixes_behind before (one ∷ others) = prefixes_behind (before ++ next_prefix before one ∷ []) others

-- what the children of each supervisor of a tree that was drawn up have in front
abbrev pub prefixes_of : {J S : Type 0} → Tree J S → List (List ℕ)
prefixes_of t = prefixes_behind ([] ∷ []) t.nested

-- a supervisor whose children have this in front of their ids has this path
abbrev pub has_path : List ℕ → List ℕ → Bool
has_path path prefix = bytes_eq (path_text prefix) path

-- each supervisor of a tree has the path that leads to it in the drawing
abbrev pub PathsAreWalked : Type 0 → Type 0 → Type 0
PathsAreWalked J S = (d : Drawing J S) → prefixes_of (tree_of d) ≡ prefixes [] d
