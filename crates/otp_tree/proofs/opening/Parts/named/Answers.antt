use Rattle.std.proofs.Common.{◌∙◌, ap, sym, subst}
use Rattle.otp_close.specs.Closes.{IsReached, all_senders}
use Rattle.otp_hand.specs.Hands.{SystemView}
use Rattle.otp_tree.proofs.opening.Parts.named.Goals as goal

pub returns-clause-tables : goal.returns-clause-tables
returns-clause-tables g c = ap (λ (s : SystemView). s.tables) c.of_parts.ensures ∙ c.open.ensures.tables ∙ c.requires.as_many

pub returns-clause-complete : goal.returns-clause-complete
returns-clause-complete g c = λ some.
    let hands = c.in-Ok.ready.hands.items in
    let client = c.in-Ok.ready.client in
    let whole = (c.in-Ok.ensures {u = tt}).complete some in
    (whole.0, subst (λ n. IsReached n client (all_senders client hands)) (sym (returns-clause-tables g c)) whole.1)
