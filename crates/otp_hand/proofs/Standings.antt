-- Parts of the right to send, as one of a list of senders sends or is credited.
use Rattle.std.proofs.Common.{◌≡◌, ℕ, ◌<◌, List, Option, [], ◌∷◌, ◌++◌, get_or, length, refl, set, subst, sym, ap, ◌∙◌}
use Rattle.std.specs.Prelude.{Result, Ok, Err, OnOk, IfErr, IfSome}
use Rattle.std.proofs.lemmas.Option.{slice_get_read}
use lib.Seq.{map-set_same}
use Rattle.otp_inbox.specs.Tokens.{SenderState}
use Rattle.otp_bodies.specs.declared.letter.Message.{Message}
use Rattle.otp_hand.specs.Seats.{Seated}
use Rattle.otp_hand.specs.Standings.{part_of, parts_in}
use Rattle.otp_run.proofs.Places.{set_at}

-- one of these senders changed, and kept its parts
pub keep_parts : (list : List (SenderState Message)) (k : ℕ) (old new : SenderState Message) → old ≡ get_or list k old → new.parts ≡ old.parts → parts_in (set list k new) ≡ parts_in list
keep_parts list k old new at same = map-set_same part_of list k new old (same ∙ ap part_of at)

-- it sent one more item, or nothing
pub send_parts : {E : Type 0} (list : List (SenderState Message)) (k : ℕ) (old new : SenderState Message) (x : Message) (r : Result Unit E) → old ≡ get_or list k old → OnOk r (new ≡ record old { sent = old.sent ++ x ∷ [] }) → IfErr r (λ _. new ≡ old) → parts_in (set list k new) ≡ parts_in list
send_parts list k old new x (Ok u) at sent same = keep_parts list k old new at (ap part_of sent)
send_parts list k old new x (Err e) at sent same = keep_parts list k old new at (ap part_of same)

-- one of these senders changed, and kept its inbox and its parts
pub keep_seat : (list : List (SenderState Message)) (k : ℕ) (old new : SenderState Message) → k < length list → old ≡ get_or list k old → new.inbox ≡ old.inbox → new.parts ≡ old.parts → Seated list → Seated (set list k new)
keep_seat list k old new within at inbox parts seated =
    let Sits : ℕ → SenderState Message → Type 0 = λ j s. (s.inbox ≡ j) × (0 < s.parts) in
    let Is : Option (SenderState Message) → Type 0 = λ o. IfSome o (Sits k) in
    let own : Sits k old = subst Is (slice_get_read list (length list) k old refl within at) (seated k) in
    set_at Sits Sits list k new seated (λ j s other is. is) (inbox ∙ own.0, subst (λ (n : ℕ). 0 < n) (sym parts) own.1)
