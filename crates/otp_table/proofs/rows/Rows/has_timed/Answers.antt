use Rattle.std.proofs.Common.{◌∙◌, ap, ℕ}
use Rattle.std.specs.Prelude.{nat_lt}
use Rattle.std.specs.List.{list_any}
use Rattle.otp_table.specs.Rows.{is_timed, row_has}
use Rattle.otp_table.specs.Table.{Table}
use Rattle.otp_table.proofs.Awaited.{some_counted}
use Rattle.otp_table.proofs.rows.Rows.has_timed.Goals as goal

pub returns : goal.returns
returns c =
    ap (λ (n : ℕ). nat_lt 0 n) (c.timed.ensures _ c.self.invariant.counted) ∙ some_counted (row_has is_timed) c.self.inside.items.items
    ∙ ap (λ (t : Table). list_any (row_has is_timed) t.rows) c.self.view_is
