use Rattle.std.proofs.Common.{◌<◌, arith, ap, length, take}
use Rattle.std.proofs.lemmas.List.{take_all}
use Rattle.std.proofs.lemmas.List.Sums.{sum_by_more}
use Rattle.otp_close.proofs.Leavings.{count_told, counted_by}
use Rattle.otp_close.proofs.rooms.count_sent.Goals as goal

pub returns : goal.returns
returns g c = λ few. count_told c.args.place c.args.client.now c.args.hands.now (take c.loop-hand.hand-index c.args.hands.now) c.loop-hand.count (take_all c.loop-hand.hand-index c.args.hands.now (omega (arith, c.loop-hand-test.false))) c.loop-hand.invariant few

pub loop-hand-preserved : goal.loop-hand-preserved
loop-hand-preserved g c =
    let counted = counted_by c.args.place in
    let within : c.loop-hand.hand-index < length c.args.hands.now = omega (arith, c.loop-hand-test.true) in
    let more = sum_by_more counted c.args.hands.now c.loop-hand.hand-index c.hand-item.result within in
    let item = ap counted c.hand-item.is in
    let hand = ap counted c.hand.view_is in
    let sent = c.sent_count_at.ensures in
    let so_far = c.loop-hand.invariant in
    let sum = c.saturating_add-count.ensures in
    omega (arith, more, item, hand, sent, so_far, sum)
