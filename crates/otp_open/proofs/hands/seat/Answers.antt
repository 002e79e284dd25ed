use Rattle.std.proofs.Common.{◌≡◌, ◌∷◌, [], ap, arith, length, length-append, sym, subst, ◌∙◌}
use Rattle.std.proofs.lemmas.List.Sums.{sum_by_push}
use Rattle.otp_hand.specs.Begun.{start_share, starts_credited}
use Rattle.otp_hand.specs.Ended.{end_share, ends_sent}
use Rattle.otp_open.proofs.Firsts.{none_credited, none_sent}
use Rattle.otp_hand.proofs.Begun.{starts_push}
use Rattle.otp_inbox.specs.Tokens.{first_sender}
use Rattle.otp_run.proofs.Places.{push_at}
use Rattle.otp_run.specs.Lists.{AllAt}
use Rattle.otp_bodies.specs.declared.letter.Message.{Message}
use Rattle.otp_open.proofs.hands.seat.Goals as goal

pub returns-clause-starts : goal.returns-clause-starts
returns-clause-starts g c =
    let items = c.in-Ok.ensures {u = tt} in
    let all = ap starts_credited items ∙ starts_push c.args.senders.items c.args.outer in
    let firsts = none_credited c.args.senders.items c.requires.seated in
    let last = ap start_share c.requires.outer in
    omega (arith, all, firsts, last)

pub returns-clause-ends : goal.returns-clause-ends
returns-clause-ends g c =
    let items = c.in-Ok.ensures {u = tt} in
    let all = ap ends_sent items ∙ sum_by_push end_share c.args.senders.items c.args.outer in
    let firsts = none_sent c.args.senders.items c.requires.seated in
    let last = ap end_share c.requires.outer in
    omega (arith, all, firsts, last)

pub returns-clause-firsts : goal.returns-clause-firsts
returns-clause-firsts g c = subst (AllAt (λ k s. s ≡ first_sender {P = Message} k)) (sym (c.in-Ok.ensures {u = tt})) (push_at (λ k s. s ≡ first_sender k) c.args.senders.items c.args.outer c.requires.seated c.requires.outer)

pub returns-clause-many : goal.returns-clause-many
returns-clause-many g c = ap length (c.in-Ok.ensures {u = tt}) ∙ length-append c.args.senders.items (c.args.outer ∷ [])
