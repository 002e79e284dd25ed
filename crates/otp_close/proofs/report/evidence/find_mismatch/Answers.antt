use Rattle.std.proofs.Common.{◌<◌, Some, length, ap, sym, ◌∙◌, arith, rules}
use Rattle.std.proofs.lemmas.Option.{slice_get-get_or}
use Rattle.otp_close.specs.Tellings.{IsToldSo}
use Rattle.otp_close.proofs.Below.{below-more, below-all}
use Rattle.otp_close.proofs.report.evidence.find_mismatch.Goals as goal

pub loop-table-preserved : goal.loop-table-preserved
loop-table-preserved c =
    let so : IsToldSo c.args.tables.now c.index-tables-table.result = search rules in
    let within : c.loop-table.table < length c.args.tables.now = omega (arith, c.loop-table-test.true) in
    let at = slice_get-get_or c.args.tables.now c.loop-table.table c.index-tables-table.result within ∙ ap (λ x. Some x) (sym c.index-tables-table.is) in
    below-more (IsToldSo c.args.tables.now) c.args.tables.now c.loop-table.table c.index-tables-table.result at so c.loop-table.invariant

pub returns-clause-none : goal.returns-clause-none
returns-clause-none c = below-all (IsToldSo c.args.tables.now) c.args.tables.now c.loop-table.table (omega (arith, c.loop-table-test.false)) c.loop-table.invariant
