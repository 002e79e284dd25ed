-- What was sent by senders that are joined one after the other.
use Rattle.std.proofs.Common.{◌≡◌, ℕ, zero, suc, ◌+◌, ◌-◌, ◌^◌, ◌<◌, ◌≤◌, List, [], ◌∷◌, ◌++◌, Option, Some, None, length, map, min, set, refl, sym, ap, ◌∙◌, subst, arith, append_assoc, append-nil, length-append}
use Rattle.std.specs.Prelude.{slice_get, sum_by, IfSome, MatchOption}
use Rattle.std.proofs.lemmas.List.Sums.{sum_by-cons, sum_by_push}
use Rattle.std.proofs.lemmas.Option.{slice_get_past, slice_get_within}
use Rattle.otp_inbox.specs.Lists.{together}
use Rattle.otp_inbox.specs.Tokens.{SenderState, all_parts, all_sent, count_limit}
use Rattle.otp_bodies.specs.declared.letter.Message.{Message}
use Rattle.otp_run.specs.Lists.{AllAt}
use Rattle.otp_run.proofs.Places.{each_at, map-append, set_at}
use Rattle.otp_hand.proofs.Sendings.{sent_joined, together-append}
use Rattle.otp_close.specs.Closes.{all_senders}
use Rattle.otp_hand.specs.Hands.{TreeClientView, HandView, senders_of}
use Rattle.otp_hand.specs.Sendings.{sent_at, sent_in, sent_to, parts_at, parts_of, parts_to, with_sender}
use Rattle.otp_close.specs.Settlings.{HasAll, IsJoined, IsWhole}

module _ {A : Type 0} where
  -- a fact of each element, from the place at which it is found
  pub each_found : (Q : ℕ → A → Type 0) (xs : List A) → ((j : ℕ) (x : A) → slice_get xs j ≡ Some x → Q j x) → AllAt Q xs
  each_found Q xs found k = (elim (slice_get xs k) as (λ o. slice_get xs k ≡ o → IfSome o (Q k)) [ Some x ↦ (λ e. found k x e) | None ↦ (λ e. tt) ]) refl

  pub found_at : (P : ℕ → A → Type 0) (xs : List A) (k : ℕ) (x : A) → AllAt P xs → slice_get xs k ≡ Some x → P k x
  found_at P xs k x all e = subst (λ o. IfSome o (P k)) e (all k)

  pub push_here : (xs : List A) (x : A) → slice_get (xs ++ x ∷ []) (length xs) ≡ Some x
  push_here [] x = refl
  push_here (y ∷ ys) x = push_here ys x

  pub push_other : (xs : List A) (x : A) (k : ℕ) → ¬ (k ≡ length xs) → slice_get (xs ++ x ∷ []) k ≡ slice_get xs k
  push_other [] x zero apart = absurd (apart refl)
  push_other [] x (suc k) apart = refl
  push_other (y ∷ ys) x zero apart = refl
  push_other (y ∷ ys) x (suc k) apart = push_other ys x k (λ e. apart (ap suc e))

-- nothing was joined yet
pub joined_none : (old : List (SenderState Message)) → AllAt (λ k s. s.parts ≤ all_parts) old → AllAt (IsJoined old []) old
joined_none old few = each_found (IsJoined old []) old (λ j s e.
    let bound : s.parts ≤ all_parts = found_at (λ k t. t.parts ≤ all_parts) old j s few e in
    subst (λ (o : Option (SenderState Message)). MatchOption o ⊥ (λ (q : SenderState Message). (all_sent s ≡ all_sent q ++ sent_at j []) × (s.parts ≡ min (q.parts + parts_at j []) all_parts))) (sym e)
    (sym (append-nil (all_sent s)), omega (arith, bound)))

-- elsewhere one more changes nothing
joined_other : (old others : List (SenderState Message)) (x : SenderState Message) (j : ℕ) (z : SenderState Message) → ¬ (j ≡ length others) → IsJoined old others j z → IsJoined old (others ++ x ∷ []) j z
joined_other old others x j z apart p = subst (λ (o : Option (SenderState Message)). MatchOption (slice_get old j) ⊥ (λ (q : SenderState Message). (all_sent z ≡ all_sent q ++ sent_in o) × (z.parts ≡ min (q.parts + parts_of o) all_parts))) (sym (push_other others x j apart)) p

-- one more is joined at its place
pub joined_more : (old others now : List (SenderState Message)) (x s : SenderState Message) → slice_get now (length others) ≡ Some s → AllAt (IsJoined old others) now → AllAt (IsJoined old (others ++ x ∷ [])) (set now (length others) (with_sender x s))
joined_more old others now x s at all =
    let k = length others in
    let past : slice_get others k ≡ None = slice_get_past others k (omega arith) in
    let here : slice_get (others ++ x ∷ []) k ≡ Some x = push_here others x in
    let mine : IsJoined old (others ++ x ∷ []) k (with_sender x s) = elim (slice_get old k) as (λ o. MatchOption o ⊥ (λ (q : SenderState Message). (all_sent s ≡ all_sent q ++ sent_at k others) × (s.parts ≡ min (q.parts + parts_at k others) all_parts)) → MatchOption o ⊥ (λ (q : SenderState Message). (all_sent (with_sender x s) ≡ all_sent q ++ sent_at k (others ++ x ∷ [])) × ((with_sender x s).parts ≡ min (q.parts + parts_at k (others ++ x ∷ [])) all_parts))) [
      | Some q ↦ (λ p.
          let parts : s.parts ≡ min (q.parts + 0) all_parts = p.1 ∙ ap (λ w. min (q.parts + parts_of w) all_parts) past in
          let sum : min (s.parts + x.parts) all_parts ≡ min (q.parts + x.parts) all_parts = omega (arith, parts) in (
            sent_joined x s ∙ ap (λ l. l ++ all_sent x) (p.0 ∙ ap (λ w. all_sent q ++ sent_in w) past ∙ append-nil (all_sent q)) ∙ ap (λ w. all_sent q ++ sent_in w) (sym here),
            sum ∙ ap (λ w. min (q.parts + parts_of w) all_parts) (sym here),
          ))
      | None ↦ (λ p. p)
    ] (found_at (IsJoined old others) now k s all at) in
    set_at (IsJoined old others) (IsJoined old (others ++ x ∷ [])) now k (with_sender x s) all (λ j z apart p. joined_other old others x j z apart p) mine

-- one for which there is no place is let go
pub joined_past : (old others now : List (SenderState Message)) (x : SenderState Message) → length now ≤ length others → AllAt (IsJoined old others) now → AllAt (IsJoined old (others ++ x ∷ [])) now
joined_past old others now x past all = each_at (IsJoined old others) (IsJoined old (others ++ x ∷ [])) now all (λ j z within p. joined_other old others x j z (λ e. absurd (omega (arith, e, within, past))) p)

sent_to-push : (k : ℕ) (all : List (List (SenderState Message))) (x : List (SenderState Message)) → sent_to k (all ++ x ∷ []) ≡ sent_to k all ++ sent_at k x
sent_to-push k all x = ap together (map-append (sent_at k) all (x ∷ [])) ∙ together-append (map (sent_at k) all) (sent_at k x ∷ []) ∙ ap (λ l. sent_to k all ++ l) (append-nil (sent_at k x))

-- each has no more than all have
pub few_parts : (senders : List (SenderState Message)) (rest : List (List (SenderState Message))) → ((place : ℕ) → place < length senders → parts_to place (senders ∷ rest) ≡ all_parts) → AllAt (λ k s. s.parts ≤ all_parts) senders
few_parts senders rest whole = each_found (λ k s. s.parts ≤ all_parts) senders (λ j s e.
    let within = slice_get_within senders j s e in
    let sum = sum_by-cons (parts_at j) senders rest in
    let mine : parts_at j senders ≡ s.parts = ap parts_of e in
    omega (arith, whole j within, sum, mine))

-- the first senders have what they have
pub has_one : (senders : List (SenderState Message)) → AllAt (λ k s. s.parts ≤ all_parts) senders → AllAt (HasAll (senders ∷ [])) senders
has_one senders few = each_found (HasAll (senders ∷ [])) senders (λ j s e.
    let bound : s.parts ≤ all_parts = found_at (λ k t. t.parts ≤ all_parts) senders j s few e in
    let sum : parts_to j (senders ∷ []) ≡ parts_at j senders + 0 = sum_by-cons (parts_at j) senders [] in
    let mine : parts_at j senders ≡ s.parts = ap parts_of e in (
      sym (ap (λ o. sent_in o ++ []) e ∙ append-nil (all_sent s)),
      omega (arith, bound, sum, mine),
    ))

-- and what all have once others were joined
pub has_more : (all : List (List (SenderState Message))) (old other new : List (SenderState Message)) → AllAt (HasAll all) old → AllAt (IsJoined old other) new → AllAt (HasAll (all ++ other ∷ [])) new
has_more all old other new has joined = each_found (HasAll (all ++ other ∷ [])) new (λ j s e.
    let sum : parts_to j (all ++ other ∷ []) ≡ parts_to j all + parts_at j other = sum_by_push (parts_at j) all other in
    (elim (slice_get old j) as (λ q. slice_get old j ≡ q → MatchOption q ⊥ (λ (o : SenderState Message). (all_sent s ≡ all_sent o ++ sent_at j other) × (s.parts ≡ min (o.parts + parts_at j other) all_parts)) → HasAll (all ++ other ∷ []) j s) [
      | Some o ↦ (λ at p.
          let h : HasAll all j o = found_at (HasAll all) old j o has at in (
            p.0 ∙ ap (λ l. l ++ sent_at j other) h.0 ∙ sym (sent_to-push j all other),
            omega (arith, p.1, h.1, sum),
          ))
      | None ↦ (λ at p. absurd p)
    ]) refl (found_at (IsJoined old other) new j s joined e))

pub has_whole : (all : List (List (SenderState Message))) (count : ℕ) (senders : List (SenderState Message)) → length senders ≡ count → ((place : ℕ) → place < count → parts_to place all ≡ all_parts) → AllAt (HasAll all) senders → AllAt (IsWhole all) senders
has_whole all count senders many whole has = each_at (HasAll all) (IsWhole all) senders has (λ j s within h.
    let w = whole j (omega (arith, within, many)) in (
      h.0,
      omega (arith, h.1, w),
    ))

module _ {A : Type 0} (f : A → ℕ) (limit : ℕ) where
  -- counts that stop at a limit are exact where all together are below it
  exact_sum : (xs : List A) → sum_by (λ x. min (f x) limit) xs < limit → sum_by (λ x. min (f x) limit) xs ≡ sum_by f xs
  exact_sum [] small = refl
  exact_sum (x ∷ xs) small =
      let one = sum_by-cons (λ y. min (f y) limit) x xs in
      let all = sum_by-cons f x xs in
      let rest = exact_sum xs (omega (arith, one, small)) in
      omega (arith, one, all, rest, small)

module _ {J S : Type 0} where
  -- how much a hand sent
  abbrev pub sent_by : ℕ → HandView J S → ℕ
  sent_by place hand = length (sent_at place hand.senders)

  -- the same, as it is counted
  abbrev pub counted_by : ℕ → HandView J S → ℕ
  counted_by place hand = min (length (sent_at place hand.senders)) count_limit

  by_hands : (place : ℕ) (hands : List (HandView J S)) → length (sent_to place (map senders_of hands)) ≡ sum_by (sent_by place) hands
  by_hands place [] = refl
  by_hands place (h ∷ hs) = length-append (sent_at place h.senders) (sent_to place (map senders_of hs)) ∙ ap (λ n. length (sent_at place h.senders) + n) (by_hands place hs) ∙ sym (sum_by-cons (sent_by place) h hs)

  -- what was counted is what was sent, where it is below the limit
  pub count_told : (place : ℕ) (client : TreeClientView) (hands counted : List (HandView J S)) (count : ℕ) → counted ≡ hands → count ≡ min (min (length (sent_at place client.senders)) count_limit + sum_by (counted_by place) counted) (2 ^ 64 - 1) → count < count_limit → length (sent_to place (all_senders client hands)) ≡ count
  count_told place client hands counted count same is small =
      let whole = ap (λ l. sum_by (counted_by place) l) same in
      let sum : sum_by (counted_by place) hands ≡ sum_by (sent_by place) hands = exact_sum (sent_by place) count_limit hands (omega (arith, is, small, whole)) in
      let by = by_hands place hands in
      let long = length-append (sent_at place client.senders) (sent_to place (map senders_of hands)) in
      omega (arith, is, small, whole, sum, by, long)
