use Rattle.std.proofs.Common.{◌≡◌, drop, map}
use Rattle.otp_file.specs.RolesFaults.{first_unknown, table_seen}
use Rattle.otp_file.proofs.roles.fault.first_unknown.Given as goal

abbrev pub invariant-loop-table : goal.invariant-loop-table
invariant-loop-table l = first_unknown (map table_seen (drop l.table-index l.tables)) ≡ first_unknown (map table_seen l.tables)
