use Rattle.std.proofs.Common.{◌≡◌, ◌≤◌, ◌++◌, drop}
use Rattle.otp_costs.specs.Table.{children_end, children_text}
use Rattle.otp_costs.proofs.table.write_children.Given as goal

abbrev pub invariant-loop-name : goal.invariant-loop-name
invariant-loop-name l =
    (l.column ≤ 80)
    × ((children_end l.column l.path (drop l.name-index l.names) ≡ children_end l.fn.column l.path l.names)
    × (l.out.items ++ children_text l.column l.path (drop l.name-index l.names) ≡ l.fn.out.items ++ children_text l.fn.column l.path l.names))
