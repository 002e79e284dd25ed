use Rattle.std.proofs.Common.{ℕ, List, ◌++◌, length, map, ap, ◌∙◌, arith}
use Rattle.std.proofs.lemmas.List.{length-map, map-append}
use Rattle.otp_inbox.specs.Tokens.{added}
use Rattle.otp_uses.specs.declared.mailbox.Number.{Number}
use Rattle.otp_uses.specs.Numbers.{value_of}
use Rattle.otp_uses.proofs.Whole.{count_sent, all_came}
use Rattle.otp_uses.proofs.mailbox.settle.Goals as goal

pub drain_into-requires-clause-room : goal.drain_into-requires-clause-room
drain_into-requires-clause-room g c =
    let sent = count_sent c.args.inbox.now c.args.count c.args.sender c.requires.sent in
    let taken = ap (λ (l : List ℕ). length l) c.requires.took.are in
    omega (arith, sent, taken, length-map c.args.came.items value_of, c.requires.room)

pub returns : goal.returns
returns g c =
    let left : List Number = added c.args.came.items c.drain_into.new.left.items in
    let line = ap (λ (l : List Number). map value_of l) c.drain_into.ensures.kept ∙ map-append value_of c.args.came.items left ∙ ap (λ (l : List ℕ). l ++ map value_of left) c.requires.took.are in
    record { came = line ∙ all_came c.args.inbox.now c.args.count c.args.sender _ c.requires.sent c.drain_into.ensures.as_often c.drain_into.ensures.in_order }
