use Rattle.std.proofs.Common.{◌≡◌, ◌==◌, arith, get_or, refl, sym, true, false, rules}
use Rattle.std.proofs.lemmas.Grind.{common_steps}
use Rattle.otp_script.proofs.Lines.{place_done, place_found, place_passed, so_far_begins}
use Rattle.otp_script.specs.Spaced.{end_after_last}
use Rattle.otp_script.proofs.words.end_after_last.Goals.{then-text-place, else-text-place}
use Rattle.otp_script.proofs.words.end_after_last.Goals as goal

pub loop-place-init : goal.loop-place-init
loop-place-init c = record { inside = omega arith; place = so_far_begins (end_after_last c.args.byte c.args.text.now) }

pub loop-place-preserved : goal.loop-place-preserved
loop-place-preserved c =
    let whole = end_after_last c.args.byte c.args.text.now in
    elim c.if-text-place.branch [
      | then-text-place w ↦
          let test : (get_or c.args.text.now c.loop-place.place 0 == c.args.byte) ≡ true = grind (arith, common_steps, w.if-text-place.true) in
          record {
            inside = omega (arith, w.end-is);
            place = rw w.end-is (place_found whole c.args.byte c.loop-place.end c.loop-place.place c.args.text.now c.loop-place-test.true test c.loop-place.invariant.place);
          }
      | else-text-place w ↦
          let test : (get_or c.args.text.now c.loop-place.place 0 == c.args.byte) ≡ false = grind (arith, common_steps, w.if-text-place.false) in
          record {
            inside = omega (arith, w.end-is, c.loop-place.invariant.inside);
            place = rw w.end-is (place_passed whole c.args.byte c.loop-place.end c.loop-place.place c.args.text.now c.loop-place-test.true test c.loop-place.invariant.place);
          }
    ]

pub returns-clause-place : goal.returns-clause-place
returns-clause-place c = place_done (end_after_last c.args.byte c.args.text.now) c.args.byte c.loop-place.end c.loop-place.place c.args.text.now (omega (arith, c.loop-place-test.false)) c.loop-place.invariant.place
