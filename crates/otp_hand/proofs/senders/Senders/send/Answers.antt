use Rattle.std.proofs.Common.{◌≡◌, ◌+◌, ◌<◌, List, length, ap, subst, arith}
use Rattle.std.specs.Prelude.{OnOk, slice_set}
use Rattle.otp_inbox.specs.Tokens.{SenderState}
use Rattle.otp_bodies.specs.declared.letter.Message.{Message}
use Rattle.otp_bodies.specs.Messages.{message}
use Rattle.otp_hand.specs.Ended.{end_of, ends_sent}
use Rattle.otp_hand.specs.Standings.{parts_in}
use Rattle.otp_hand.proofs.Ended.{send_ends}
use Rattle.otp_hand.proofs.Standings.{send_parts}
use Rattle.otp_hand.proofs.senders.Senders.send.Goals as goal

pub returns-clause-ends : goal.returns-clause-ends
returns-clause-ends g c =
    let list : List (SenderState Message) = c.self.inside.list.items in
    let place = c.number-place.result in
    let number = c.number-place.ensures in
    let reaches = c.requires in
    let size : length list ≡ length c.args.self.now = ap (λ (l : List (SenderState Message)). length l) c.self.view_is in
    let within : place < length list = omega (arith, number, reaches, size) in
    let P : List (SenderState Message) → Type 0 = λ s. OnOk c.send.result (ends_sent (slice_set list place c.send.new.sender) ≡ ends_sent s + end_of c.args.letter.item) in
    subst P c.self.view_is (send_ends list place c.index_mut.result.now c.send.new.sender (message c.args.letter.item c.args.letter.end) c.send.result within c.index_mut.ensures.value c.send.ensures.sent)

pub returns-clause-parts : goal.returns-clause-parts
returns-clause-parts g c =
    let list : List (SenderState Message) = c.self.inside.list.items in
    let place = c.number-place.result in
    let P : List (SenderState Message) → Type 0 = λ s. parts_in (slice_set list place c.send.new.sender) ≡ parts_in s in
    subst P c.self.view_is (send_parts list place c.index_mut.result.now c.send.new.sender (message c.args.letter.item c.args.letter.end) c.send.result c.index_mut.ensures.value c.send.ensures.sent c.send.ensures.unchanged)
