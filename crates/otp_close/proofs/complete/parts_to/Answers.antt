use Rattle.std.proofs.Common.{◌+◌, ◌-◌, ◌^◌, ◌<◌, length, min, ap, sym, ◌∙◌, arith}
use Rattle.std.specs.Prelude.{sum_by}
use Rattle.std.proofs.lemmas.List.{take_all}
use Rattle.std.proofs.lemmas.List.Sums.{sum_by_more}
use Rattle.otp_hand.specs.Sendings.{parts_at}
use Rattle.otp_close.proofs.Sums.{parts_by, parts_by_hands}
use Rattle.otp_close.proofs.complete.parts_to.Goals as goal

pub returns : goal.returns
returns g c =
    let place = c.args.place in
    let client = c.args.client.now in
    let hands = c.args.hands.now in
    c.loop-hand.invariant
    ∙ ap (λ l. min (parts_at place client.senders + sum_by (parts_by place) l) (2 ^ 64 - 1)) (take_all c.loop-hand.hand-index hands (omega (arith, c.loop-hand-test.false)))
    ∙ ap (λ n. min n (2 ^ 64 - 1)) (sym (parts_by_hands place client hands))

pub loop-hand-preserved : goal.loop-hand-preserved
loop-hand-preserved g c =
    let parts = parts_by c.args.place in
    let within : c.loop-hand.hand-index < length c.args.hands.now = omega (arith, c.loop-hand-test.true) in
    let more = sum_by_more parts c.args.hands.now c.loop-hand.hand-index c.hand-item.result within in
    let item = ap parts c.hand-item.is in
    let hand = ap parts c.hand.view_is in
    let own = c.parts_at.ensures in
    let so_far = c.loop-hand.invariant in
    let sum = c.saturating_add-parts.ensures in
    omega (arith, more, item, hand, own, so_far, sum)
