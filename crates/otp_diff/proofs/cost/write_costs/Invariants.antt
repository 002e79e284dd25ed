use Rattle.std.proofs.Common.{◌≡◌, ◌++◌, drop}
use Rattle.std.specs.List.{flat_map}
use Rattle.otp_diff.specs.Costs.{row_text}
use Rattle.otp_diff.proofs.cost.write_costs.Given as goal

abbrev pub invariant-loop-a : goal.invariant-loop-a
invariant-loop-a l =
    l.out.items ++ flat_map (row_text l.form l.news) (drop l.a-index l.olds) ≡ l.fn.out.items ++ flat_map (row_text l.form l.news) l.olds
