use Rattle.std.proofs.Common.{take}
use Rattle.std.specs.List.{flat_map}
use Rattle.otp_file.specs.Trees.{tables_of}
use Rattle.otp_driver.specs.Opened.{AddsTables}
use Rattle.otp_driver.proofs.Linkings.{AddedUnder, root_table}
use Rattle.otp_driver.proofs.driver.Driver.+add_tree.Given as goal

abbrev pub decreases-add_tree : goal.decreases-add_tree
decreases-add_tree l = l.levels

abbrev pub invariant-loop-number : goal.invariant-loop-number
invariant-loop-number l =
    AddsTables (flat_map tables_of (take l.number l.trees)) l.initial.self l.self
    × AddedUnder l.place l.number (root_table l.tree) (flat_map tables_of (take l.number l.trees)) l.initial.self.links l.self.links
