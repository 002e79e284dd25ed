use Rattle.std.proofs.Common.{true, ◌<◌, Some, length, ap, sym, ◌∙◌, arith, rules}
use Rattle.std.proofs.lemmas.Option.{slice_get-get_or}
use Rattle.std.specs.Prelude.{IsTrue}
use Rattle.otp_close.specs.Tellings.{EndedSo}
use Rattle.otp_close.proofs.Below.{below-more, below-all}
use Rattle.otp_close.proofs.report.evidence.all_ended_so.Goals as goal

pub loop-place-preserved : goal.loop-place-preserved
loop-place-preserved c =
    let so : EndedSo c.args.number c.args.reason c.index-ends-place.result = search rules in
    let within : c.loop-place.place < length c.args.ends.now = omega (arith, c.loop-place-test.true) in
    let at = slice_get-get_or c.args.ends.now c.loop-place.place c.index-ends-place.result within ∙ ap (λ x. Some x) (sym c.index-ends-place.is) in
    below-more (EndedSo c.args.number c.args.reason) c.args.ends.now c.loop-place.place c.index-ends-place.result at so c.loop-place.invariant

pub returns : goal.returns
returns c =
    let yes : IsTrue true = search rules in
    (λ _. below-all (EndedSo c.args.number c.args.reason) c.args.ends.now c.loop-place.place (omega (arith, c.loop-place-test.false)) c.loop-place.invariant, λ _. yes)
