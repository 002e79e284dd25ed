use Rattle.std.proofs.Common.{◌≡◌, drop, map}
use Rattle.std.specs.List.{list_any}
use Rattle.otp_file.specs.RolesFaults.{has_misfit, table_seen}
use Rattle.otp_file.proofs.roles.fault.any_misfit.Given as goal

abbrev pub invariant-loop-table : goal.invariant-loop-table
invariant-loop-table l =
    list_any has_misfit (map table_seen (drop l.table-index l.tables)) ≡ list_any has_misfit (map table_seen l.tables)
