use Rattle.std.proofs.Common.{◌∙◌, ap, get_or, sym}
use Rattle.std.specs.Prelude.{◌≡◌, Some}
use Rattle.std.proofs.lemmas.Option.{get_or_from_slice_get, slice_get-get_or}
use Rattle.otp_table.specs.Rows.{is_restarting}
use Rattle.otp_table.specs.declared.row.Row.{Row}
use Rattle.otp_table.proofs.Calming.{calm_already, got}
use Rattle.otp_table.proofs.rows.Rows.calm_row.Goals as goal

pub returns-else-is_restarting-clause-rows : goal.returns-else-is_restarting-clause-rows
returns-else-is_restarting-clause-rows c row e =
    let at = got c.args.self.now.rows c.args.place row e in
    let read : c.index.result.now ≡ row =
    c.index.ensures
    ∙ ap (λ v. get_or v.rows c.args.place c.index.result.now) c.self.view_is
    ∙ get_or_from_slice_get c.args.self.now.rows c.args.place row c.index.result.now e in
    calm_already c.args.self.now.rows c.args.place row at.1 (ap (λ (r : Row). is_restarting r.state) (sym read) ∙ sym c.if-is_restarting.ensures)

pub returns-else-is_restarting-clause-found : goal.returns-else-is_restarting-clause-found
returns-else-is_restarting-clause-found c =
    let read : get_or c.args.self.now.rows c.args.place c.index.result.now ≡ c.index.result.now =
    sym (c.index.ensures ∙ ap (λ v. get_or v.rows c.args.place c.index.result.now) c.self.view_is) in
    (c.index.result.now, slice_get-get_or c.args.self.now.rows c.args.place c.index.result.now c.requires ∙ ap (λ (row : Row). Some row) read)
