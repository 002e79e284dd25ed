-- What all senders have, hand by hand.
use Rattle.std.proofs.Common.{◌≡◌, ℕ, ◌+◌, List, [], ◌∷◌, map, refl, sym, ap, ◌∙◌}
use Rattle.std.specs.Prelude.{sum_by}
use Rattle.std.proofs.lemmas.List.Sums.{sum_by-cons}
use Rattle.otp_inbox.specs.Tokens.{SenderState}
use Rattle.otp_bodies.specs.declared.letter.Message.{Message}
use Rattle.otp_close.specs.Closes.{all_senders}
use Rattle.otp_hand.specs.Hands.{HandView, TreeClientView, senders_of}
use Rattle.otp_hand.specs.Sendings.{parts_at, parts_to}

module _ {J S : Type 0} where
  abbrev pub parts_by : ℕ → HandView J S → ℕ
  parts_by place hand = parts_at place hand.senders

  by_hands : (f : List (SenderState Message) → ℕ) (hands : List (HandView J S)) → sum_by f (map senders_of hands) ≡ sum_by (λ h. f h.senders) hands
  by_hands f [] = refl
  by_hands f (h ∷ hs) = sum_by-cons f h.senders (map senders_of hs) ∙ ap (λ n. f h.senders + n) (by_hands f hs) ∙ sym (sum_by-cons (λ g. f g.senders) h hs)

  pub parts_by_hands : (place : ℕ) (client : TreeClientView) (hands : List (HandView J S)) → parts_to place (all_senders client hands) ≡ parts_at place client.senders + sum_by (parts_by place) hands
  parts_by_hands place client hands = sum_by-cons (parts_at place) client.senders (map senders_of hands) ∙ ap (λ n. parts_at place client.senders + n) (by_hands (parts_at place) hands)
