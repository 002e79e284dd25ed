use Rattle.std.proofs.Common.{◌≡◌, ◌+◌, ◌++◌, List, map, length, None}
use Rattle.otp_file.specs.Trees.{Table}
use Rattle.otp_file.specs.RolesFaults.{first_unknown, table_seen}
use Rattle.otp_jobs.specs.Plans.{plans_from, seen, tree_sizes}
use Rattle.otp_jobs.proofs.plan.plan_all.Given as goal

-- the plans and sizes are those of the tables that were taken, which stood behind those that are left
abbrev pub invariant-loop-table : goal.invariant-loop-table
invariant-loop-table l =
    (taken : List Table) ×
    (map table_seen l.tables.items ++ taken ≡ map table_seen l.fn.tables.items) ×
    (map seen l.plans.items ≡ plans_from (length l.tables.items) taken) ×
    (l.sizes.items ≡ tree_sizes taken) ×
    (first_unknown (map table_seen l.tables.items) ≡ None) ×
    (length l.plans.items + length l.tables.items ≡ length l.fn.tables.items)

abbrev pub decreases-loop-table : goal.decreases-loop-table
decreases-loop-table l = length l.tables.items
