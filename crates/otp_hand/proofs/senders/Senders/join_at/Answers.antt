use Rattle.std.proofs.Common.{◌≡◌, ◌+◌, ◌<◌, List, length, ap, subst, arith}
use Rattle.std.specs.Prelude.{slice_set}
use Rattle.otp_inbox.specs.Tokens.{SenderState}
use Rattle.otp_bodies.specs.declared.letter.Message.{Message}
use Rattle.otp_hand.specs.Ended.{end_share, ends_sent}
use Rattle.otp_hand.proofs.Ended.{join_ends}
use Rattle.otp_hand.proofs.senders.Senders.join_at.Goals as goal

pub returns-clause-ends : goal.returns-clause-ends
returns-clause-ends g c =
    let list : List (SenderState Message) = c.self.inside.list.items in
    let place = c.number-place.result in
    let number = c.number-place.ensures in
    let reaches = c.requires.reaches in
    let size : length list ≡ length c.args.self.now = ap (λ (l : List (SenderState Message)). length l) c.self.view_is in
    let within : place < length list = omega (arith, number, reaches, size) in
    let P : List (SenderState Message) → Type 0 = λ s. ends_sent (slice_set list place c.join.new.sender) ≡ ends_sent s + end_share c.args.other in
    subst P c.self.view_is (join_ends list place c.index_mut.result.now c.join.new.sender c.args.other within c.index_mut.ensures.value c.join.ensures.joined c.join.ensures.own.1)
