use Rattle.std.proofs.Common.{◌≡◌, ◌++◌, ◌≤◌, map, length}
use Rattle.std.specs.List.{flat_map}
use Rattle.std.specs.Vec.Iter.{into_iter_items}
use Rattle.otp_file.specs.Trees.{tables_of}
use Rattle.otp_file.specs.RolesFaults.{table_seen}
use Rattle.otp_file.proofs.roles.flat.+flatten.Given as goal

abbrev pub decreases-flatten : goal.decreases-flatten
decreases-flatten l = goal.size-flatten l

-- the tables so far, and those of the trees that are left
abbrev pub invariant-loop-tree : goal.invariant-loop-tree
invariant-loop-tree l =
    (map table_seen l.tables.items ++ flat_map tables_of (into_iter_items l.tree-iterator) ≡ map table_seen l.initial.tables.items ++ flat_map tables_of (into_iter_items l.initial.tree-iterator)) ×
    (length (flat_map tables_of (into_iter_items l.tree-iterator)) ≤ length l.fn.tree.below) ×
    (goal.iterator-loop-tree).can_next l.tree-iterator ×
    (goal.iterator-loop-tree).is_finite l.tree-iterator
