-- End notes that senders sent.
use Rattle.std.proofs.Common.{◌≡◌, ℕ, ◌+◌, ◌<◌, List, [], ◌∷◌, ◌++◌, get_or, length, set, ap, ◌∙◌, arith}
use Rattle.std.specs.Prelude.{sum_by, Result, Ok, Err, OnOk}
use Rattle.std.proofs.lemmas.List.Sums.{sum_by-append, sum_by-set, sum_by_push}
use Rattle.otp_inbox.specs.Lists.{together}
use Rattle.otp_inbox.specs.Tokens.{SenderState, all_sent, sent_lists}
use Rattle.otp_bodies.specs.declared.letter.Message.{Message}
use Rattle.otp_hand.specs.Ended.{end_in, end_share, ends_sent}
use Rattle.otp_hand.specs.Sendings.{with_sender}
use Rattle.otp_hand.proofs.Sendings.{sent_joined}

-- one more item is sent
pub sent_more : (s : SenderState Message) (x : Message) → end_share (record s { sent = s.sent ++ x ∷ [] }) ≡ end_share s + end_in x
sent_more s x =
    let after = sum_by-append end_in (s.sent ++ x ∷ []) (together s.joined) in
    let before = sum_by-append end_in s.sent (together s.joined) in
    let one = sum_by_push end_in s.sent x in
    omega (arith, after, before, one)

-- a sender that took in another has the end notes of both
pub joined_ends : (x s : SenderState Message) → end_share (with_sender x s) ≡ end_share s + end_share x
joined_ends x s = ap (sum_by end_in) (sent_joined x s) ∙ sum_by-append end_in (all_sent s) (all_sent x)

-- one of these senders changed
pub set_ends : (list : List (SenderState Message)) (k : ℕ) (old new : SenderState Message) → k < length list → old ≡ get_or list k old → ends_sent (set list k new) + end_share old ≡ ends_sent list + end_share new
set_ends list k old new within at =
    let one = sum_by-set end_share list k new old within in
    let same = ap end_share at in
    omega (arith, one, same)

-- it sent one more item, or nothing
pub send_ends : {E : Type 0} (list : List (SenderState Message)) (k : ℕ) (old new : SenderState Message) (x : Message) (r : Result Unit E) → k < length list → old ≡ get_or list k old → OnOk r (new ≡ record old { sent = old.sent ++ x ∷ [] }) → OnOk r (ends_sent (set list k new) ≡ ends_sent list + end_in x)
send_ends list k old new x (Ok u) within at sent =
    let changed = set_ends list k old new within at in
    let more = ap end_share sent ∙ sent_more old x in
    omega (arith, changed, more)
send_ends list k old new x (Err e) within at sent = tt

-- it took in another
pub join_ends : (list : List (SenderState Message)) (k : ℕ) (old new other : SenderState Message) → k < length list → old ≡ get_or list k old → new.joined ≡ old.joined ++ sent_lists other → new.sent ≡ old.sent → ends_sent (set list k new) ≡ ends_sent list + end_share other
join_ends list k old new other within at joined own =
    let changed = set_ends list k old new within at in
    let more : end_share new ≡ end_share old + end_share other =
    ap (λ (l : List (List Message)). sum_by end_in (new.sent ++ together l)) joined
    ∙ ap (λ (l : List Message). sum_by end_in (l ++ together (old.joined ++ sent_lists other))) own
    ∙ joined_ends other old
    in
    omega (arith, changed, more)
