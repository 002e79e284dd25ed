-- What a sender sent that took in another.
use Rattle.std.proofs.Common.{◌≡◌, List, [], ◌∷◌, ◌++◌, refl, sym, ap, ◌∙◌, append_assoc}
use Rattle.otp_inbox.specs.Lists.{together}
use Rattle.otp_inbox.specs.Tokens.{SenderState, all_sent, sent_lists}
use Rattle.otp_bodies.specs.declared.letter.Message.{Message}
use Rattle.otp_hand.specs.Sendings.{with_sender}

module _ {P : Type 0} where
  pub together-append : (xss yss : List (List P)) → together (xss ++ yss) ≡ together xss ++ together yss
  together-append [] yss = refl
  together-append (xs ∷ xss) yss = ap (λ l. xs ++ l) (together-append xss yss) ∙ sym (append_assoc xs (together xss) (together yss))

pub sent_joined : (x s : SenderState Message) → all_sent (with_sender x s) ≡ all_sent s ++ all_sent x
sent_joined x s = ap (λ l. s.sent ++ l) (together-append s.joined (sent_lists x)) ∙ sym (append_assoc s.sent (together s.joined) (all_sent x))
