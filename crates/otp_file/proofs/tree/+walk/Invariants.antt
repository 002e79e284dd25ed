use Rattle.std.proofs.Common.{◌+◌, ◌*◌, drop}
use Rattle.otp_file.proofs.WalkLemmas.{IsWalked}
use Rattle.otp_file.proofs.tree.+walk.Given as goal

abbrev pub invariant-read_trees-loop-child : goal.invariant-read_trees-loop-child
invariant-read_trees-loop-child l =
    IsWalked l.levels l.children l.initial.next l.next (drop l.child-index l.children) l.trees.items

abbrev pub decreases-read_table : goal.decreases-read_table
decreases-read_table l = l.levels * 2

abbrev pub decreases-read_trees : goal.decreases-read_trees
decreases-read_trees l = l.levels * 2 + 1
