-- Children of a supervisor that are taken together (own).
use Rattle.std.specs.Prelude.{ℕ, Bool, true, false, List, [], ◌∷◌, ◌++◌, Option, Some, None}
use Rattle.std.specs.List.{filter_map, list_any}
use Rattle.std.specs.Str.{bytes_eq}
use Rattle.otp_reason.specs.declared.name.Name.{Name}
use Rattle.otp_reason.specs.Names.{name_bytes}
use Rattle.otp_costs.specs.Falls.{supervisor_path}
use Rattle.otp_costs.specs.declared.alike.Weighed.{Weighed}
use Rattle.otp_costs.specs.declared.group.Group.{Group}
use Rattle.otp_costs.specs.declared.pick.Pick.{Pick}
use Rattle.otp_costs.specs.declared.pick.Pick.TheVariants as pick

-- the name of a child, where it is taken together with that one
abbrev pub name_if : Bool → Weighed → Option Name
name_if false child = None
name_if true child = Some child.spec.id

-- the names of those that are taken together with a child, itself among them, in start order
abbrev pub names_with : (Weighed → Bool) → List Weighed → List Name
names_with is_with children = filter_map (λ child. name_if (is_with child) child) children

-- a group with a child at its head, unless an earlier group has it
unfoldable pub group_if : Bool → (Weighed → Bool) → List Weighed → Weighed → List Group
group_if true is_with all child = []
group_if false is_with all child = record { first = child.spec.id; names = names_with is_with all } ∷ []

unfoldable pub heads_after : Bool → List Weighed → Weighed → List Weighed
heads_after true heads child = heads
heads_after false heads child = heads ++ child ∷ []

-- the groups of these children of a supervisor that has all of those, where groups with these heads were found before
abbrev pub groups_from : (Weighed → Weighed → Bool) → List Weighed → List Weighed → List Weighed → List Group
groups_from alike all heads [] = []
groups_from alike all heads (child ∷ children) =
    group_if (list_any (alike child) heads) (alike child) all child
    ++ groups_from alike all (heads_after (list_any (alike child) heads) heads child) children

-- the children of a supervisor, those together that are alike
abbrev pub groups : (Weighed → Weighed → Bool) → List Weighed → List Group
groups alike children = groups_from alike children [] children

-- the name of a child of a supervisor with this path
abbrev pub below : List ℕ → Name → List ℕ
below path name = path ++ name_bytes name

-- whether a group of a supervisor, whose children have this path, is asked for
unfoldable pub is_wanted : Pick → List ℕ → List Name → Bool
is_wanted pick.All path names = true
is_wanted (pick.Child whole) path names = list_any (λ name. bytes_eq (below path name) whole.now) names
is_wanted (pick.Table whole) path names = bytes_eq (supervisor_path path) whole.now
