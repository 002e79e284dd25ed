use Rattle.std.proofs.Common.{◌<◌, Some, length, ap, sym, ◌∙◌, arith, rules}
use Rattle.std.proofs.lemmas.Option.{slice_get-get_or}
use Rattle.otp_close.specs.Tellings.{IsBorneOut}
use Rattle.otp_close.proofs.Below.{below-more, below-all}
use Rattle.otp_close.proofs.report.evidence.find_false_end.Goals as goal

pub loop-place-preserved : goal.loop-place-preserved
loop-place-preserved c =
    let so : IsBorneOut c.args.tables.now c.index-ends-place.result = search rules in
    let within : c.loop-place.place < length c.args.ends.now = omega (arith, c.loop-place-test.true) in
    let at = slice_get-get_or c.args.ends.now c.loop-place.place c.index-ends-place.result within ∙ ap (λ x. Some x) (sym c.index-ends-place.is) in
    below-more (IsBorneOut c.args.tables.now) c.args.ends.now c.loop-place.place c.index-ends-place.result at so c.loop-place.invariant

pub returns-clause-none : goal.returns-clause-none
returns-clause-none c = below-all (IsBorneOut c.args.tables.now) c.args.ends.now c.loop-place.place (omega (arith, c.loop-place-test.false)) c.loop-place.invariant
