use Rattle.std.proofs.Common.{◌≡◌, ◌++◌, ◌≤◌, drop, length, map}
use Rattle.std.specs.List.{flat_map}
use Rattle.otp_file.specs.Trees.{tables_of}
use Rattle.otp_commands.specs.Below.{table_of}
use Rattle.otp_commands.proofs.lint.tables.+put_tables.Given as goal

abbrev pub decreases-put_tables : goal.decreases-put_tables
decreases-put_tables l = goal.size-put_tables l

-- the tables so far, and those of the trees that are left
abbrev pub invariant-loop-sub : goal.invariant-loop-sub
invariant-loop-sub l =
    (map table_of l.tables.items ++ flat_map tables_of (drop l.sub-index l.sub-items) ≡ map table_of l.fn.tables.items ++ tables_of l.fn.tree)
    × (length (flat_map tables_of (drop l.sub-index l.sub-items)) ≤ length l.fn.tree.below)
