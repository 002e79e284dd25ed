-- The shares of senders that are joined one after the other.
use Rattle.std.proofs.Common.{◌≡◌, ℕ, ◌+◌, ◌<◌, ◌≤◌, List, [], ◌∷◌, ◌++◌, Option, Some, None, length, set, refl, sym, ap, ◌∙◌, subst, arith}
use Rattle.std.specs.Prelude.{slice_get, MatchOption, sum_by}
use Rattle.std.proofs.lemmas.List.Sums.{sum_by-cons, sum_by_push}
use Rattle.std.proofs.lemmas.Option.{slice_get_past}
use Rattle.otp_inbox.specs.declared.rule.Shares.{Shares}
use Rattle.otp_inbox.specs.Tokens.{SenderState, no_shares, plus}
use Rattle.otp_bodies.specs.declared.letter.Message.{Message}
use Rattle.otp_run.specs.Lists.{AllAt}
use Rattle.otp_run.proofs.Places.{each_at, set_at}
use Rattle.otp_hand.specs.Sendings.{with_sender}
use Rattle.otp_close.specs.Tables.{shares_at, shares_in, shares_to, starts_at, turns_at}
use Rattle.otp_close.specs.Settlings.{HasGained, HasShares}
use Rattle.otp_close.proofs.Leavings.{each_found, found_at, push_here, push_other}
use Rattle.otp_close.proofs.Settlings.{but_last, some_at}

same_shares : (a b : Shares) → a.starts ≡ b.starts → a.turns ≡ b.turns → a ≡ b
same_shares a b starts turns = λ i. record { starts = starts i; turns = turns i }

plus-none : (a : Shares) → plus a no_shares ≡ a
plus-none a = same_shares (plus a no_shares) a (omega arith) (omega arith)

-- nothing was joined yet
pub shares_none : (old : List (SenderState Message)) → AllAt (HasGained old []) old
shares_none old = each_found (HasGained old []) old (λ j s e.
    subst (λ (o : Option (SenderState Message)). MatchOption o ⊥ (λ (q : SenderState Message). s.shares ≡ plus q.shares (shares_at j []))) (sym e)
    (sym (plus-none s.shares)))

-- elsewhere one more changes nothing
shares_other : (old others : List (SenderState Message)) (x : SenderState Message) (j : ℕ) (z : SenderState Message) → ¬ (j ≡ length others) → HasGained old others j z → HasGained old (others ++ x ∷ []) j z
shares_other old others x j z apart p = subst (λ (o : Option (SenderState Message)). MatchOption (slice_get old j) ⊥ (λ (q : SenderState Message). z.shares ≡ plus q.shares (shares_in o))) (sym (push_other others x j apart)) p

-- one more is joined at its place
pub shares_more : (old others now : List (SenderState Message)) (x s : SenderState Message) → slice_get now (length others) ≡ Some s → AllAt (HasGained old others) now → AllAt (HasGained old (others ++ x ∷ [])) (set now (length others) (with_sender x s))
shares_more old others now x s at all =
    let k = length others in
    let past : slice_get others k ≡ None = slice_get_past others k (omega arith) in
    let here : slice_get (others ++ x ∷ []) k ≡ Some x = push_here others x in
    let mine : HasGained old (others ++ x ∷ []) k (with_sender x s) = elim (slice_get old k) as (λ o. MatchOption o ⊥ (λ (q : SenderState Message). s.shares ≡ plus q.shares (shares_at k others)) → MatchOption o ⊥ (λ (q : SenderState Message). (with_sender x s).shares ≡ plus q.shares (shares_at k (others ++ x ∷ [])))) [
      | Some q ↦ (λ p.
          ap (λ n. plus n x.shares) (p ∙ ap (λ w. plus q.shares (shares_in w)) past ∙ plus-none q.shares) ∙ ap (λ w. plus q.shares (shares_in w)) (sym here))
      | None ↦ (λ p. p)
    ] (found_at (HasGained old others) now k s all at) in
    set_at (HasGained old others) (HasGained old (others ++ x ∷ [])) now k (with_sender x s) all (λ j z apart p. shares_other old others x j z apart p) mine

-- one for which there is no place is let go
pub shares_past : (old others now : List (SenderState Message)) (x : SenderState Message) → length now ≤ length others → AllAt (HasGained old others) now → AllAt (HasGained old (others ++ x ∷ [])) now
shares_past old others now x past all = each_at (HasGained old others) (HasGained old (others ++ x ∷ [])) now all (λ j z within p. shares_other old others x j z (λ e. absurd (omega (arith, e, within, past))) p)

shares_to-push : (k : ℕ) (all : List (List (SenderState Message))) (x : List (SenderState Message)) → shares_to k (all ++ x ∷ []) ≡ plus (shares_to k all) (shares_at k x)
shares_to-push k all x = same_shares (shares_to k (all ++ x ∷ [])) (plus (shares_to k all) (shares_at k x)) (sum_by_push (starts_at k) all x) (sum_by_push (turns_at k) all x)

-- the first senders have their own shares
pub shares_one : (senders : List (SenderState Message)) → AllAt (HasShares (senders ∷ [])) senders
shares_one senders = each_found (HasShares (senders ∷ [])) senders (λ j s e.
    let starts = sum_by-cons (starts_at j) senders [] in
    let turns = sum_by-cons (turns_at j) senders [] in
    let mine : shares_at j senders ≡ s.shares = ap shares_in e in
    let starts_mine = ap (λ (n : Shares). n.starts) mine in
    let turns_mine = ap (λ (n : Shares). n.turns) mine in
    same_shares s.shares (shares_to j (senders ∷ [])) (omega (arith, starts, starts_mine)) (omega (arith, turns, turns_mine)))

-- and those of all once others were joined
pub shares_all : (all : List (List (SenderState Message))) (old other new : List (SenderState Message)) → AllAt (HasShares all) old → AllAt (HasGained old other) new → AllAt (HasShares (all ++ other ∷ [])) new
shares_all all old other new has joined = each_found (HasShares (all ++ other ∷ [])) new (λ j s e.
    (elim (slice_get old j) as (λ q. slice_get old j ≡ q → MatchOption q ⊥ (λ (o : SenderState Message). s.shares ≡ plus o.shares (shares_at j other)) → HasShares (all ++ other ∷ []) j s) [
      | Some o ↦ (λ at p. p ∙ ap (λ n. plus n (shares_at j other)) (found_at (HasShares all) old j o has at) ∙ sym (shares_to-push j all other))
      | None ↦ (λ at p. absurd p)
    ]) refl (found_at (HasGained old other) new j s joined e))

-- the senders to supervisors have the shares of all
pub shares_but_last : (all : List (List (SenderState Message))) (list : List (SenderState Message)) (last : SenderState Message) (joined : List (SenderState Message)) (j : ℕ) → list ++ last ∷ [] ≡ joined → AllAt (HasShares all) joined → j < length list → shares_at j list ≡ shares_to j all
shares_but_last all list last joined j same has within =
    let s = some_at list j within in
    ap shares_in s.1 ∙ found_at (HasShares all) list j s.0 (but_last (HasShares all) list last (subst (AllAt (HasShares all)) (sym same) has)) s.1
