use Rattle.std.proofs.Common.{◌≡◌, ◌++◌, drop}
use Rattle.std.specs.List.{flat_map}
use Rattle.otp_diff.specs.Costs.{rows_text}
use Rattle.otp_diff.proofs.cost.write_row.Given as goal

abbrev pub invariant-loop-b : goal.invariant-loop-b
invariant-loop-b l =
    l.out.items ++ flat_map (rows_text l.form l.a) (drop l.b-index l.news) ≡ l.fn.out.items ++ flat_map (rows_text l.form l.a) l.news
