use Rattle.std.proofs.Common.{◌≡◌, false, refl, length, ap, arith, rules}
use Rattle.std.specs.Prelude.{IsTrue}
use Rattle.otp_inbox.specs.Tokens.{all_parts}
use Rattle.otp_close.specs.Closes.{all_senders}
use Rattle.otp_hand.specs.Sendings.{parts_to}
use Rattle.otp_close.proofs.Below.{below-next}
use Rattle.otp_close.proofs.complete.has_all_parts.Goals as goal

isnt_true : IsTrue false → ⊥
isnt_true found = search (rules, found)

pub loop-place-preserved : goal.loop-place-preserved
loop-place-preserved g c =
    let place = c.loop-place.place in
    let all = all_senders c.args.client.now c.args.hands.now in
    let found = c.parts_to.ensures in
    let whole : parts_to place all ≡ all_parts = omega (arith, found, c.if-parts_to-ne-ALL_PARTS.false) in
    below-next (λ k. parts_to k all ≡ all_parts) place c.loop-place.invariant whole

pub returns-then-parts_to-ne-ALL_PARTS : goal.returns-then-parts_to-ne-ALL_PARTS
returns-then-parts_to-ne-ALL_PARTS g c =
    let place = c.loop-place.place in
    let reach = ap (λ v. length v.senders) c.client.view_is in (
      λ found. absurd (isnt_true found),
      λ all.
          let whole = all place (omega (arith, reach, c.len-place-end.ensures, c.loop-place-test.true)) in
          absurd (omega (arith, whole, c.parts_to.ensures, c.if-parts_to-ne-ALL_PARTS.true)),
    )

pub returns : goal.returns
returns g c =
    let reach = ap (λ v. length v.senders) c.client.view_is in
    (λ _ k within. c.loop-place.invariant k (omega (arith, within, reach, c.len-place-end.ensures, c.loop-place-test.false)), λ _. refl)
