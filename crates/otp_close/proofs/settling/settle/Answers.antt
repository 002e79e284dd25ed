use Rattle.std.proofs.Common.{◌≡◌, ◌∙◌, ◌++◌, List, length, map, refl, sym, ap, subst, arith, length-append}
use Rattle.std.proofs.lemmas.List.{length-map}
use Rattle.otp_inbox.specs.Lists.{AsOften, EachInOrder}
use Rattle.otp_inbox.specs.Tokens.{all_sent, added, sent_lists}
use Rattle.otp_rules.specs.declared.event.Item.{Item}
use Rattle.otp_bodies.specs.Messages.{items_in, message}
use Rattle.otp_tally.proofs.Sums.{sum_by-one}
use Rattle.otp_close.proofs.Come.{all_added, items_as_often, items_each_in_order, messages_of, says}
use Rattle.otp_close.proofs.settling.settle.Goals as goal

pub items_of-requires-clause-room : goal.items_of-requires-clause-room
items_of-requires-clause-room g c =
    let d = c.drain_into.ensures in
    let letters = added c.args.room.letters.items c.drain_into.new.left.items in
    let line = c.args.taker.taken ++ messages_of letters in
    let often = d.as_often (λ _. 1) in
    let sent = sum_by-one (all_sent c.args.sender) in
    let all = sum_by-one line in
    let long = length-append c.args.taker.taken (messages_of letters) in
    let same = length-map letters (λ x. message x.item x.end) in
    let kept = ap length d.kept in
    let more = length-append c.args.room.letters.items letters in
    let none = ap length c.requires.room.no_letters in
    let room = c.requires.room.items in
    omega arith

pub returns-clause-left : goal.returns-clause-left
returns-clause-left g c =
    let d = c.drain_into.ensures in
    let letters = added c.args.room.letters.items c.drain_into.new.left.items in
    let same = all_added c.args.room.letters.items c.drain_into.new.left.items c.requires.room.no_letters in
    let said : items_in (messages_of letters) ≡ c.items_of.result.items = says letters ∙ ap (map (λ l. l.item)) same ∙ sym c.items_of.ensures in
    subst (λ (l : List Item). AsOften (items_in (all_sent c.args.sender)) (items_in c.args.taker.taken ++ l)) said
    (items_as_often (all_sent c.args.sender) c.args.taker.taken (messages_of letters) d.as_often)

pub returns-clause-order : goal.returns-clause-order
returns-clause-order g c =
    let d = c.drain_into.ensures in
    let letters = added c.args.room.letters.items c.drain_into.new.left.items in
    let same = all_added c.args.room.letters.items c.drain_into.new.left.items c.requires.room.no_letters in
    let said : items_in (messages_of letters) ≡ c.items_of.result.items = says letters ∙ ap (map (λ l. l.item)) same ∙ sym c.items_of.ensures in
    subst (λ (l : List Item). EachInOrder (map items_in (sent_lists c.args.sender)) (items_in c.args.taker.taken ++ l)) said
    (items_each_in_order (sent_lists c.args.sender) c.args.taker.taken (messages_of letters) d.in_order)

pub returns-clause-messages : goal.returns-clause-messages
returns-clause-messages g c =
    let d = c.drain_into.ensures in
    let letters = added c.args.room.letters.items c.drain_into.new.left.items in
    let same = all_added c.args.room.letters.items c.drain_into.new.left.items c.requires.room.no_letters in
    record {
      left = messages_of letters;
      says = says letters ∙ ap (map (λ l. l.item)) same ∙ sym c.items_of.ensures;
      as_often = d.as_often;
    }
