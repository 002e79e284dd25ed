use Rattle.std.proofs.Common.{◌≡◌, ◌≤◌, ◌++◌, drop}
use Rattle.otp_costs.specs.Table.{supervisors_text}
use Rattle.otp_costs.proofs.table.write_supervisors.Given as goal

abbrev pub invariant-loop-path : goal.invariant-loop-path
invariant-loop-path l =
    (l.column ≤ 80)
    × (l.out.items ++ supervisors_text l.column (drop l.path-index l.paths) ≡ l.fn.out.items ++ supervisors_text l.fn.column l.paths)
