use Rattle.std.proofs.Common.{ℕ, false, ◌<◌, Some, length, ap, sym, ◌∙◌, arith, rules}
use Rattle.std.specs.Prelude.{IsTrue}
use Rattle.std.proofs.lemmas.Option.{slice_get-get_or}
use Rattle.otp_rules.specs.declared.ending.SupEnd.{SupEnd}
use Rattle.otp_close.specs.Tellings.{IsEndUnder}
use Rattle.otp_close.proofs.Below.{below-more, below-all}
use Rattle.otp_close.proofs.There.{none_there}
use Rattle.otp_close.proofs.report.evidence.gives.Goals as goal

pub loop-place-preserved : goal.loop-place-preserved
loop-place-preserved c =
    let isnt : ¬ (IsEndUnder c.args.number c.args.end.now c.index-ends-place.result) = search rules in
    let within : c.loop-place.place < length c.args.ends.now = omega (arith, c.loop-place-test.true) in
    let at = slice_get-get_or c.args.ends.now c.loop-place.place c.index-ends-place.result within ∙ ap (λ x. Some x) (sym c.index-ends-place.is) in
    below-more (λ (x : ℕ × SupEnd). ¬ (IsEndUnder c.args.number c.args.end.now x)) c.args.ends.now c.loop-place.place c.index-ends-place.result at isnt c.loop-place.invariant

pub returns : goal.returns
returns c =
    let all = below-all (λ (x : ℕ × SupEnd). ¬ (IsEndUnder c.args.number c.args.end.now x)) c.args.ends.now c.loop-place.place (omega (arith, c.loop-place-test.false)) c.loop-place.invariant in
    (λ found. absurd (isnt_true found), λ there. absurd (none_there (IsEndUnder c.args.number c.args.end.now) c.args.ends.now all there))
  where
    isnt_true : IsTrue false → ⊥
    isnt_true found = search (rules, found)
