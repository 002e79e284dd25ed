use Rattle.std.proofs.Common.{◌∙◌, ap, ℕ}
use Rattle.std.specs.Prelude.{nat_lt}
use Rattle.std.specs.List.{list_any}
use Rattle.otp_table.specs.Rows.{is_left}
use Rattle.otp_table.specs.Table.{Table}
use Rattle.otp_table.proofs.Awaited.{some_counted}
use Rattle.otp_table.proofs.rows.Rows.has_left.Goals as goal

pub returns : goal.returns
returns c =
    ap (λ (n : ℕ). nat_lt 0 n) c.self.invariant.counted.left ∙ some_counted is_left c.self.inside.items.items
    ∙ ap (λ (t : Table). list_any is_left t.rows) c.self.view_is
