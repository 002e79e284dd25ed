-- Parts of the right to send that are split off for new hands.
use Rattle.std.proofs.Common.{Some, ◌≡◌, ℕ, zero, suc, ◌+◌, ◌<◌, List, [], ◌∷◌, ◌++◌, Bool, true, false, length, map, refl, sym, ap, ◌∙◌, subst, arith}
use Rattle.std.specs.Prelude.{◌≢◌, ◌==◌, sum_by}
use Rattle.std.proofs.lemmas.Bool.{eqb-false, eqb-true}
use Rattle.std.proofs.lemmas.List.Sums.{sum_by_push}
use Rattle.otp_inbox.specs.Tokens.{SenderState}
use Rattle.otp_bodies.specs.declared.letter.Message.{Message}
use Rattle.otp_run.proofs.Places.{map-append}
use Rattle.otp_hand.specs.Hands.{HandView, senders_of}
use Rattle.otp_hand.specs.Sendings.{parts_at, parts_to}
use Rattle.otp_hand.specs.Standings.{AreSplit, IsSplitAt}

last_parts : (xs : List (SenderState Message)) (x : SenderState Message) → parts_at (length xs) (xs ++ x ∷ []) ≡ x.parts
last_parts [] x = refl
last_parts (y ∷ ys) x = last_parts ys x

past_parts : (xs : List (SenderState Message)) → parts_at (length xs) xs ≡ 0
past_parts [] = refl
past_parts (y ∷ ys) = past_parts ys

other_parts : (xs : List (SenderState Message)) (x : SenderState Message) (k : ℕ) → k ≢ length xs → parts_at k (xs ++ x ∷ []) ≡ parts_at k xs
other_parts [] x zero apart = absurd (apart refl)
other_parts [] x (suc k) apart = refl
other_parts (y ∷ ys) x zero apart = refl
other_parts (y ∷ ys) x (suc k) apart = other_parts ys x k (λ e. apart (ap suc e))

-- one more sender was split off
pub split_more : (list : List (SenderState Message)) (x : SenderState Message) (first old new : List (SenderState Message)) → AreSplit list first old → IsSplitAt (length list) x.parts old new → AreSplit (list ++ x ∷ []) first new
split_more list x first old new so_far one k = by (k == length list) refl
  where
    at_end : parts_at (length list) new + parts_at (length list) (list ++ x ∷ []) ≡ parts_at (length list) first
    at_end =
        let here = one.here in
        let last = last_parts list x in
        let none = past_parts list in
        let before = so_far (length list) in
        omega (arith, here, last, none, before)

    by : (b : Bool) → (k == length list) ≡ b → parts_at k new + parts_at k (list ++ x ∷ []) ≡ parts_at k first
    by true is = subst (λ j. parts_at j new + parts_at j (list ++ x ∷ []) ≡ parts_at j first) (sym (eqb-true k (length list) is)) at_end
    by false is =
        let apart = eqb-false k (length list) is in
        let same = one.others k apart in
        let listed = other_parts list x k apart in
        let before = so_far k in
        omega (arith, same, listed, before)

module _ {J S : Type 0} where
  -- one more hand
  pub hand_more : (k : ℕ) (hs : List (HandView J S)) (h : HandView J S) → parts_to k (map senders_of (hs ++ h ∷ [])) ≡ parts_to k (map senders_of hs) + parts_at k h.senders
  hand_more k hs h = ap (sum_by (parts_at k)) (map-append senders_of hs (h ∷ [])) ∙ sum_by_push (parts_at k) (map senders_of hs) h.senders
