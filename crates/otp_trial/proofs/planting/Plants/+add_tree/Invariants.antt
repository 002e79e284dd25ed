use Rattle.std.proofs.Common.{take}
use Rattle.std.specs.List.{flat_map}
use Rattle.otp_file.specs.Trees.{tables_of}
use Rattle.otp_trial.specs.Played.{AddsTables, paths_in}
use Rattle.otp_trial.proofs.Pathings.{AddedUnder, root_table}
use Rattle.otp_trial.proofs.planting.Plants.+add_tree.Given as goal

abbrev pub decreases-add_tree : goal.decreases-add_tree
decreases-add_tree l = l.levels

abbrev pub invariant-loop-number : goal.invariant-loop-number
invariant-loop-number l =
    AddsTables l.tells (flat_map tables_of (take l.number l.trees)) l.initial.self.seats.items l.self.seats.items
    × AddedUnder l.path l.number (root_table l.tree) (flat_map tables_of (take l.number l.trees)) (paths_in l.initial.self.seats.items) (paths_in l.self.seats.items)
