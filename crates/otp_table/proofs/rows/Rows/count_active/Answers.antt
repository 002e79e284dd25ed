use Rattle.std.proofs.Common.{rules, ◌≡◌, ◌≤◌, ◌∙◌, List, ap, arith, length}
use Rattle.std.specs.Prelude.{count_by}
use Rattle.std.proofs.lemmas.List.Sums.{count_by-le-length}
use Rattle.otp_spec.specs.declared.limits.TheConstants.{MAX_CHILDREN}
use Rattle.otp_table.specs.declared.row.Row.{Row}
use Rattle.otp_table.specs.Rows.{is_active, row_has}
use Rattle.otp_table.specs.Table.{Table}
use Rattle.otp_table.proofs.rows.Rows.count_active.Goals as goal

pub returns-clause-count : goal.returns-clause-count
returns-clause-count c = c.active.ensures _ c.self.invariant.counted ∙ ap (λ (t : Table). count_by (row_has is_active) t.rows) c.self.view_is

pub returns-clause-limit : goal.returns-clause-limit
returns-clause-limit c =
    let rows : List Row = c.self.inside.items.items in
    let is : c.active.result ≡ count_by (row_has is_active) rows = c.active.ensures rows c.self.invariant.counted in
    let few : length rows ≤ MAX_CHILDREN = search rules in
    omega (arith, is, few, count_by-le-length (row_has is_active) rows)
