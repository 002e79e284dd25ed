use Rattle.std.proofs.Common.{arith}
use Rattle.otp_close.proofs.Settlings.{roomier}
use Rattle.otp_close.proofs.rooms.room_of.Goals as goal

pub returns-in-Some-clause-room : goal.returns-in-Some-clause-room
returns-in-Some-clause-room g c =
    let e = c.in-Some.ensures {u = tt} in
    let taken = c.taken_count.ensures in (
      c.requires.takes,
      roomier _ _ _ _ c.in-Some.room (c.count_sent.ensures e.few) (omega arith) e.room,
    )
