-- A tree is larger than each of the trees in it: it has more tables.
use Rattle.std.specs.Prelude.{ℕ, ◌+◌, ◌≤◌, List, [], ◌∷◌, length}
use Rattle.std.specs.List.{flat_map}
use Rattle.std.proofs.Common.{arith, length-append}
use Rattle.otp_file.specs.Trees.{Tree, tables_of}
use denote.Param.Weighed.{most}

-- no tree has more tables than all of them together
pub most_le-below : (trees : List Tree) → most (λ t. (length t.below + 1) + 1) trees ≤ length (flat_map tables_of trees) + 1
most_le-below [] = omega arith
most_le-below (t ∷ rest) = omega (arith, most_le-below rest, length-append (tables_of t) (flat_map tables_of rest))
