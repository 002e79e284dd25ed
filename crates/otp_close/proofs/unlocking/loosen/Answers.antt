use Rattle.std.proofs.Common.{length, sym, ap, ◌∙◌, subst, arith}
use Rattle.otp_close.specs.Closes.{all_senders}
use Rattle.otp_close.specs.Settlings.{AreRooms, IsLastRoom}
use Rattle.otp_close.proofs.unlocking.loosen.Goals as goal

pub returns-in-Ok-make_rooms-clause-loose : goal.returns-in-Ok-make_rooms-clause-loose
returns-in-Ok-make_rooms-clause-loose g c =
    let all = all_senders c.args.client.now c.args.hands.now in
    let unlocked = c.unlock_all-sups.ensures in
    let space = c.in-Ok.ensures {u = tt} in
    let made = c.in-Ok-make_rooms.ensures {u = tt} in
    let size = ap (λ v. v.tables) c.shared.view_is in
    let tables = c.tables-tables.ensures ∙ sym size ∙ sym unlocked.many in
    let room = space.tables.1 in
    let room_back = space.back.1 in
    record {
      placed = (unlocked.placed, c.shared.invariant.1 ∙ sym unlocked.many);
      many_rooms = made.many ∙ ap length c.as_slice.ensures.value;
      rooms = subst (λ l. AreRooms all l c.make_rooms.new.rooms.items) c.as_slice.ensures.value made.rooms;
      last = subst (λ n. IsLastRoom all n c.args.client.now.waiter c.in-Some.last) tables (c.in-Some.ensures {u = tt});
      no_tables = space.tables.0;
      room = omega arith;
      none_back = space.back.0;
      room_back = omega arith;
    }
