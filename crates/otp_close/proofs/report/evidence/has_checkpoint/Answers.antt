use Rattle.std.proofs.Common.{false, ◌<◌, Some, length, ap, sym, ◌∙◌, arith, rules}
use Rattle.std.specs.Prelude.{IsTrue}
use Rattle.std.proofs.lemmas.Option.{slice_get-get_or}
use Rattle.otp_close.specs.declared.report.report.TableReport.{TableReport}
use Rattle.otp_close.proofs.Below.{below-more, below-all}
use Rattle.otp_close.proofs.There.{none_there}
use Rattle.otp_close.proofs.report.evidence.has_checkpoint.Goals as goal

pub loop-table-preserved : goal.loop-table-preserved
loop-table-preserved c =
    let isnt : ¬ (0 < c.index-tables-table.result.core.cut) = search rules in
    let within : c.loop-table.table < length c.args.tables.now = omega (arith, c.loop-table-test.true) in
    let at = slice_get-get_or c.args.tables.now c.loop-table.table c.index-tables-table.result within ∙ ap (λ x. Some x) (sym c.index-tables-table.is) in
    below-more (λ (t : TableReport). ¬ (0 < t.core.cut)) c.args.tables.now c.loop-table.table c.index-tables-table.result at isnt c.loop-table.invariant

pub returns : goal.returns
returns c =
    let all = below-all (λ (t : TableReport). ¬ (0 < t.core.cut)) c.args.tables.now c.loop-table.table (omega (arith, c.loop-table-test.false)) c.loop-table.invariant in
    (λ found. absurd (isnt_true found), λ there. absurd (none_there (λ (t : TableReport). 0 < t.core.cut) c.args.tables.now all there))
  where
    isnt_true : IsTrue false → ⊥
    isnt_true found = search (rules, found)
