use Rattle.std.proofs.Common.{◌≡◌, false, refl, ◌<◌, Some, length, ap, subst, sym, ◌∙◌, arith, rules}
use Rattle.std.proofs.lemmas.Option.{slice_get-get_or}
use Rattle.std.specs.Prelude.{IfSome, IsTrue}
use Rattle.otp_hand.specs.Hands.{senders_of}
use Rattle.otp_close.proofs.Below.{below-more, below-all}
use Rattle.otp_close.proofs.complete.reach_as_far.Goals as goal

isnt_true : IsTrue false → ⊥
isnt_true found = search (rules, found)

pub loop-place-preserved : goal.loop-place-preserved
loop-place-preserved g c =
    let hands = c.args.hands.now in
    let so : length c.index-hands-place.result.senders ≡ c.args.count = c.sends_to.ensures.0 c.if-not-sends_to.false in
    let within : c.loop-place.place < length hands = omega (arith, c.loop-place-test.true) in
    let at = slice_get-get_or hands c.loop-place.place c.index-hands-place.result within ∙ ap (λ x. Some x) (sym c.index-hands-place.is) in
    below-more (λ h. length (senders_of h) ≡ c.args.count) hands c.loop-place.place c.index-hands-place.result at so c.loop-place.invariant

pub returns : goal.returns
returns g c = (λ _. below-all (λ h. length (senders_of h) ≡ c.args.count) c.args.hands.now c.loop-place.place (omega (arith, c.loop-place-test.false)) c.loop-place.invariant, λ _. refl)

pub returns-then-not-sends_to : goal.returns-then-not-sends_to
returns-then-not-sends_to g c =
    let hands = c.args.hands.now in
    let within : c.loop-place.place < length hands = omega (arith, c.loop-place-test.true) in
    let at = slice_get-get_or hands c.loop-place.place c.index-hands-place.result within ∙ ap (λ x. Some x) (sym c.index-hands-place.is) in (
      λ found. absurd (isnt_true found),
      λ all.
          let so = subst (λ o. IfSome o (λ h. length (senders_of h) ≡ c.args.count)) at (all c.loop-place.place) in
          absurd (isnt_true (sym c.if-not-sends_to.true ∙ c.sends_to.ensures.1 so)),
    )
