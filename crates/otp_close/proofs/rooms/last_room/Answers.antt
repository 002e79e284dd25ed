use Rattle.std.proofs.Common.{◌≡◌, Some, arith, rules}
use Rattle.otp_close.specs.Closes.{all_senders}
use Rattle.otp_close.proofs.Settlings.{last_roomier}
use Rattle.otp_close.proofs.rooms.last_room.Goals as goal

pub returns : goal.returns
returns g c =
    let taken = c.taken_count.ensures in
    let is : c.args.client.now.waiter ≡ Some c.in_ok-waiter.waiter.now = search rules in
    last_roomier (all_senders c.args.client.now c.args.hands.now) c.args.tables c.count_sent.result c.taken_count.result
    c.args.client.now.waiter c.in_ok-waiter.waiter.now c.between.result is c.count_sent.ensures (omega arith) c.between.ensures.few c.between.ensures.room
