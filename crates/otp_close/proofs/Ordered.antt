-- The lists of senders that are joined one after the other.
use Rattle.std.proofs.Common.{◌≡◌, ℕ, ◌<◌, ◌≤◌, List, [], ◌∷◌, ◌++◌, Option, Some, None, length, map, set, refl, sym, ap, ◌∙◌, subst, arith, append-nil}
use Rattle.std.specs.Prelude.{slice_get, MatchOption}
use Rattle.std.proofs.lemmas.Option.{slice_get_past}
use Rattle.otp_inbox.specs.Lists.{together}
use Rattle.otp_inbox.specs.Tokens.{SenderState, sent_lists}
use Rattle.otp_bodies.specs.declared.letter.Message.{Message}
use Rattle.otp_run.specs.Lists.{AllAt}
use Rattle.otp_run.proofs.Places.{each_at, map-append, set_at}
use Rattle.otp_hand.proofs.Sendings.{together-append}
use Rattle.otp_hand.specs.Sendings.{with_sender}
use Rattle.otp_close.specs.Leavings.{lists_at, lists_in, lists_to}
use Rattle.otp_close.specs.Settlings.{HasJoined, HasLists}
use Rattle.otp_close.proofs.Leavings.{each_found, found_at, push_here, push_other}
use Rattle.otp_close.proofs.Settlings.{but_last, last_one, some_at}

-- nothing was joined yet
pub lists_none : (old : List (SenderState Message)) → AllAt (HasJoined old []) old
lists_none old = each_found (HasJoined old []) old (λ j s e.
    subst (λ (o : Option (SenderState Message)). MatchOption o ⊥ (λ (q : SenderState Message). sent_lists s ≡ sent_lists q ++ lists_at j [])) (sym e)
    (sym (append-nil (sent_lists s))))

-- elsewhere one more changes nothing
lists_other : (old others : List (SenderState Message)) (x : SenderState Message) (j : ℕ) (z : SenderState Message) → ¬ (j ≡ length others) → HasJoined old others j z → HasJoined old (others ++ x ∷ []) j z
lists_other old others x j z apart p = subst (λ (o : Option (SenderState Message)). MatchOption (slice_get old j) ⊥ (λ (q : SenderState Message). sent_lists z ≡ sent_lists q ++ lists_in o)) (sym (push_other others x j apart)) p

-- one more is joined at its place
pub lists_more : (old others now : List (SenderState Message)) (x s : SenderState Message) → slice_get now (length others) ≡ Some s → AllAt (HasJoined old others) now → AllAt (HasJoined old (others ++ x ∷ [])) (set now (length others) (with_sender x s))
lists_more old others now x s at all =
    let k = length others in
    let past : slice_get others k ≡ None = slice_get_past others k (omega arith) in
    let here : slice_get (others ++ x ∷ []) k ≡ Some x = push_here others x in
    let mine : HasJoined old (others ++ x ∷ []) k (with_sender x s) = elim (slice_get old k) as (λ o. MatchOption o ⊥ (λ (q : SenderState Message). sent_lists s ≡ sent_lists q ++ lists_at k others) → MatchOption o ⊥ (λ (q : SenderState Message). sent_lists (with_sender x s) ≡ sent_lists q ++ lists_at k (others ++ x ∷ []))) [
      | Some q ↦ (λ p.
          ap (λ l. l ++ sent_lists x) (p ∙ ap (λ w. sent_lists q ++ lists_in w) past ∙ append-nil (sent_lists q)) ∙ ap (λ w. sent_lists q ++ lists_in w) (sym here))
      | None ↦ (λ p. p)
    ] (found_at (HasJoined old others) now k s all at) in
    set_at (HasJoined old others) (HasJoined old (others ++ x ∷ [])) now k (with_sender x s) all (λ j z apart p. lists_other old others x j z apart p) mine

-- one for which there is no place is let go
pub lists_past : (old others now : List (SenderState Message)) (x : SenderState Message) → length now ≤ length others → AllAt (HasJoined old others) now → AllAt (HasJoined old (others ++ x ∷ [])) now
lists_past old others now x past all = each_at (HasJoined old others) (HasJoined old (others ++ x ∷ [])) now all (λ j z within p. lists_other old others x j z (λ e. absurd (omega (arith, e, within, past))) p)

lists_to-push : (k : ℕ) (all : List (List (SenderState Message))) (x : List (SenderState Message)) → lists_to k (all ++ x ∷ []) ≡ lists_to k all ++ lists_at k x
lists_to-push k all x = ap together (map-append (lists_at k) all (x ∷ [])) ∙ together-append (map (lists_at k) all) (lists_at k x ∷ []) ∙ ap (λ l. lists_to k all ++ l) (append-nil (lists_at k x))

-- the first senders know their lists
pub lists_one : (senders : List (SenderState Message)) → AllAt (HasLists (senders ∷ [])) senders
lists_one senders = each_found (HasLists (senders ∷ [])) senders (λ j s e. sym (ap (λ o. lists_in o ++ []) e ∙ append-nil (sent_lists s)))

-- and those of all once others were joined
pub lists_all : (all : List (List (SenderState Message))) (old other new : List (SenderState Message)) → AllAt (HasLists all) old → AllAt (HasJoined old other) new → AllAt (HasLists (all ++ other ∷ [])) new
lists_all all old other new has joined = each_found (HasLists (all ++ other ∷ [])) new (λ j s e.
    (elim (slice_get old j) as (λ q. slice_get old j ≡ q → MatchOption q ⊥ (λ (o : SenderState Message). sent_lists s ≡ sent_lists o ++ lists_at j other) → HasLists (all ++ other ∷ []) j s) [
      | Some o ↦ (λ at p. p ∙ ap (λ l. l ++ lists_at j other) (found_at (HasLists all) old j o has at) ∙ sym (lists_to-push j all other))
      | None ↦ (λ at p. absurd p)
    ]) refl (found_at (HasJoined old other) new j s joined e))

-- the senders to supervisors know what all sent there, and so does the last
pub lists_but_last : (all : List (List (SenderState Message))) (list : List (SenderState Message)) (last : SenderState Message) (joined : List (SenderState Message)) (j : ℕ) → list ++ last ∷ [] ≡ joined → AllAt (HasLists all) joined → j < length list → lists_at j list ≡ lists_to j all
lists_but_last all list last joined j same has within =
    let s = some_at list j within in
    ap lists_in s.1 ∙ found_at (HasLists all) list j s.0 (but_last (HasLists all) list last (subst (AllAt (HasLists all)) (sym same) has)) s.1

pub lists_of_last : (all : List (List (SenderState Message))) (list : List (SenderState Message)) (last : SenderState Message) (joined : List (SenderState Message)) → list ++ last ∷ [] ≡ joined → AllAt (HasLists all) joined → sent_lists last ≡ lists_to (length list) all
lists_of_last all list last joined same has = last_one (HasLists all) list last (subst (AllAt (HasLists all)) (sym same) has)
