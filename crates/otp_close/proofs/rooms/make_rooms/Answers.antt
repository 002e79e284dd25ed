use Rattle.std.proofs.Common.{◌<◌, Some, length, sym, ap, ◌∙◌, subst, arith}
use Rattle.std.specs.Prelude.{MatchOption, slice_get}
use Rattle.std.proofs.lemmas.Option.{slice_get-get_or}
use Rattle.otp_run.proofs.Places.{push_at}
use Rattle.otp_close.specs.Closes.{all_senders}
use Rattle.otp_close.specs.Settlings.{AreRooms, IsRoomAt}
use Rattle.otp_close.proofs.Apart.{length-more}
use Rattle.otp_close.proofs.rooms.make_rooms.Goals as goal

pub loop-place-preserved : goal.loop-place-preserved
loop-place-preserved g c =
    let i = c.loop-place.invariant in
    let all = all_senders c.args.client.now c.args.hands.now in
    let sups = c.args.sups.now in
    let place = c.loop-place.place in
    let sup = c.index-sups-place.result in
    let room = c.in-Ok.room in
    let one = c.push_reserved.ensures.items in
    let capacity = c.push_reserved.ensures.capacity in
    let space = i.space in
    let many = i.many in
    let long = length-more _ _ _ one in
    let within : place < length sups = omega (arith, c.loop-place-test.true) in
    let at = slice_get-get_or sups place sup within ∙ ap (λ u. Some u) (sym c.index-sups-place.is) in
    let here = subst (λ o. MatchOption o ⊥ (λ u. IsRoomAt all place u room)) (sym at) (c.in-Ok.ensures {u = tt}).room in
    record {
      many = omega arith;
      space = omega arith;
      rooms = subst (λ l. AreRooms all sups l) (sym one) (push_at (λ k r. MatchOption (slice_get sups k) ⊥ (λ u. IsRoomAt all k u r)) c.loop-place.rooms.items room i.rooms (subst (λ n. MatchOption (slice_get sups n) ⊥ (λ u. IsRoomAt all n u room)) (sym i.many) here));
    }
