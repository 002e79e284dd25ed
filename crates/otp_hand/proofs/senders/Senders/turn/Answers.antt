use Rattle.std.proofs.Common.{◌≡◌, ◌<◌, List, ap, length, rules, subst}
use Rattle.std.specs.Prelude.{slice_set}
use Rattle.otp_inbox.specs.Tokens.{SenderState}
use Rattle.otp_bodies.specs.declared.letter.Message.{Message}
use Rattle.otp_hand.specs.Standings.{part_of, parts_in}
use Rattle.otp_hand.proofs.Standings.{keep_parts, keep_seat}
use Rattle.otp_hand.proofs.senders.Senders.turn.Goals as goal

pub returns-clause-parts : goal.returns-clause-parts
returns-clause-parts g c =
    let list : List (SenderState Message) = c.self.inside.list.items in
    let place = c.number-place.result in
    let P : List (SenderState Message) → Type 0 = λ s. parts_in (slice_set list place c.turn.new.sender) ≡ parts_in s in
    subst P c.self.view_is (keep_parts list place c.index_mut-sender.result.now c.turn.new.sender c.index_mut-sender.ensures.value (ap part_of c.turn.ensures.sender))

pub invariant_of-self : goal.invariant_of-self
invariant_of-self g c =
    let list : List (SenderState Message) = c.self.inside.list.items in
    let place = c.number-place.result in
    let within : place < length list = search rules in
    keep_seat list place c.index_mut-sender.result.now c.turn.new.sender within c.index_mut-sender.ensures.value
    (ap (λ (s : SenderState Message). s.inbox) c.turn.ensures.sender) (ap part_of c.turn.ensures.sender) c.self.invariant
