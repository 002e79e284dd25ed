use Rattle.std.proofs.Common.{true, ◌<◌, Some, length, ap, sym, ◌∙◌, arith, rules}
use Rattle.std.proofs.lemmas.Option.{slice_get-get_or}
use Rattle.std.specs.Prelude.{IsTrue}
use Rattle.otp_core.specs.View.{stored_state}
use Rattle.otp_close.specs.Tellings.{Agrees}
use Rattle.otp_close.specs.declared.report.report.TableReport.{TableReport}
use Rattle.otp_close.proofs.Below.{below-more, below-all}
use Rattle.otp_close.proofs.report.evidence.all_agree.Goals as goal

pub loop-table-preserved : goal.loop-table-preserved
loop-table-preserved c =
    let so : Agrees (stored_state c.index-tables-table.result.core) c.args.number c.args.reason = search rules in
    let within : c.loop-table.table < length c.args.tables.now = omega (arith, c.loop-table-test.true) in
    let at = slice_get-get_or c.args.tables.now c.loop-table.table c.index-tables-table.result within ∙ ap (λ x. Some x) (sym c.index-tables-table.is) in
    below-more (λ (t : TableReport). Agrees (stored_state t.core) c.args.number c.args.reason) c.args.tables.now c.loop-table.table c.index-tables-table.result at so c.loop-table.invariant

pub returns : goal.returns
returns c =
    let yes : IsTrue true = search rules in
    (λ _. below-all (λ (t : TableReport). Agrees (stored_state t.core) c.args.number c.args.reason) c.args.tables.now c.loop-table.table (omega (arith, c.loop-table-test.false)) c.loop-table.invariant, λ _. yes)
