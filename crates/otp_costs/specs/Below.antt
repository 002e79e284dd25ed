-- How many processes stand below a child (own).
use Rattle.std.specs.Prelude.{ℕ, ◌+◌, Bool, true, false, List, [], ◌∷◌, ◌++◌, codes, length, map, nat_eq, if◌then◌else◌}
use Rattle.std.specs.List.{starts_with}
use Rattle.otp_reason.specs.declared.name.Name.{Name}
use Rattle.otp_spec.specs.Flags.{is_simple}
use Rattle.otp_spec.specs.declared.child.ChildSpec.{ChildSpec}
use Rattle.otp_trial.specs.Played.{Seated}
use Rattle.otp_costs.specs.Groups.{below}
use Rattle.otp_costs.specs.declared.alike.Weighed.{Weighed}

-- the path of a child's own children
abbrev pub path_below : List ℕ → Name → List ℕ
path_below path name = below path name ++ codes "/"

-- so many children start with a supervisor; those of simple_one_for_one are started by calls
unfoldable pub standing : Seated → ℕ
standing seat = if is_simple seat.base.flags.strategy then 0 else length seat.base.specs

unfoldable pub standing_if : Bool → Seated → ℕ
standing_if false seat = 0
standing_if true seat = standing seat

-- the processes of all supervisors whose paths begin so
abbrev pub count_below : List ℕ → List Seated → ℕ
count_below front [] = 0
count_below front (seat ∷ seats) = count_below front seats + standing_if (starts_with nat_eq seat.path front) seat

-- the processes of these children of a supervisor with this path, and of all that stands below them
abbrev pub count_processes : List ℕ → List Seated → List Name → ℕ
count_processes path seats [] = 0
count_processes path seats (name ∷ names) = count_processes path seats names + (1 + count_below (path_below path name) seats)

-- a child of a supervisor, and how many processes stand below it
abbrev pub weighed_in : List ℕ → List Seated → ChildSpec → Weighed
weighed_in path seats spec = record { spec = spec; below = count_below (path_below path spec.id) seats }

abbrev pub weighed : List ℕ → List Seated → List ChildSpec → List Weighed
weighed path seats specs = map (weighed_in path seats) specs
