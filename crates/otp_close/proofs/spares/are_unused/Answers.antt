use Rattle.std.proofs.Common.{◌≡◌, arith, length, refl, rules}
use Rattle.std.specs.Prelude.{IsTrue}
use Rattle.std.proofs.lemmas.Option.{slice_get_read}
use Rattle.otp_close.proofs.SparePlaces.{all_unused, one_more_unused}
use Rattle.otp_close.proofs.spares.are_unused.Goals as goal

pub loop-place-init : goal.loop-place-init
loop-place-init c = λ k behind less. absurd (omega (arith, behind, less))

pub loop-place-preserved : goal.loop-place-preserved
loop-place-preserved c =
    let tables = c.args.tables.now in
    let n = c.loop-place.place in
    let at = slice_get_read tables (length tables) n c.index-tables-place.result refl (omega (arith, c.loop-place-test.true)) c.index-tables-place.is in
    let unused : IsTrue c.is_unused.result = search rules in
    one_more_unused tables c.args.from n c.index-tables-place.result c.loop-place.invariant at (c.is_unused.ensures unused)

pub returns : goal.returns
returns c = λ _. all_unused c.args.tables.now c.args.from c.loop-place.place c.loop-place.invariant (omega (arith, c.loop-place-test.false))
