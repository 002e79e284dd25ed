use Rattle.std.proofs.Common.{◌≡◌, ◌++◌, drop}
use Rattle.std.specs.List.{flat_map}
use Rattle.otp_costs.specs.Table.{damage_text}
use Rattle.otp_costs.proofs.table.write_all_damage.Given as goal

abbrev pub invariant-loop-row : goal.invariant-loop-row
invariant-loop-row l =
    l.out.items ++ flat_map (damage_text l.is_alone l.most) (drop l.row-index l.rows) ≡ l.fn.out.items ++ flat_map (damage_text l.is_alone l.most) l.rows
