-- The child of a tree with a name (own).
use Rattle.std.specs.Prelude.{ℕ, ◌+◌, List, [], ◌∷◌, Option, Some, None, if◌then◌else◌}
use Rattle.std.specs.Str.{bytes_eq}
use Rattle.otp_costs.specs.Groups.{below}
use Rattle.otp_spec.specs.declared.child.ChildSpec.{ChildSpec}
use Rattle.otp_trial.specs.Played.{Seated}

-- the first child of a supervisor with this path that has this name
abbrev pub child_in : List ℕ → List ℕ → List ChildSpec → Option ChildSpec
child_in path name [] = None
child_in path name (spec ∷ specs) = if bytes_eq (below path spec.id) name then Some spec else child_in path name specs

-- the place of its supervisor, and itself
abbrev pub found_at : ℕ → Option ChildSpec → Option (ℕ × ChildSpec) → Option (ℕ × ChildSpec)
found_at place None others = others
found_at place (Some spec) others = Some (place, spec)

-- the child of this name in these supervisors, of which the first stands at this place
abbrev pub child_from : ℕ → List ℕ → List Seated → Option (ℕ × ChildSpec)
child_from place name [] = None
child_from place name (seat ∷ seats) = found_at place (child_in seat.path name seat.base.specs) (child_from (place + 1) name seats)
