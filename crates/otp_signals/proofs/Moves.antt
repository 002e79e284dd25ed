-- Each step keeps the rule.
use Rattle.std.proofs.Common.{◌≡◌, ◌≢◌, ◌⊎◌, ⊎_elim, ℕ, zero, suc, ◌+◌, ◌-◌, ◌%◌, ◌^◌, ◌<◌, ◌≤◌, Bool, true, false, true≢false, cond, ◌==◌, eq-eqb, ne_eqb, lit≤, add-one, add-zero, replicate, List, [], ◌∷◌, ◌++◌, length, set, refl, sym, ap, ◌∙◌, subst, inl, inr, arith}
use Rattle.std.specs.Prelude.{sum_by, slice_index, max, not, ◌&&◌}
use Rattle.std.proofs.lemmas.List.{length-set, get_or-set_same, get_or-set_other, set-get_or, length-replicate}
use Rattle.std.proofs.lemmas.List.Sums.{sum_by-append, sum_by-cons}
use mathlib.Core.Option.{some, none, some-ne-none, some-injective}
use mathlib.Core.Logic.{dite}
use native.Mathlib.Decide.{ℕ_discrete}
use lib.ListN.{get_elem?}
use Rattle.atomic_table.specs.Table.{State, step, keeps, Allows, opening, Splits}
use Rattle.atomic_table.proofs.Lists.{at_set, set_here, set_else, set_again, at_longer, at_last}
use Rattle.otp_signals.specs.declared.view.SignalsView.{SignalsView}
use Rattle.otp_signals.specs.Lists.{numbers_to, Below, Rises, NeverFalls, ZeroOrIn, greatest, has, words_at, between}
use Rattle.otp_signals.specs.Holdings.{after_draw, after_post}
use Rattle.otp_signals.specs.Rules.{first_view, kept_view, cut_view, blank_view, NumberRule, SignalRule, Owns, Saw, KeepsRules, Draws, Posts, Looks}
use Rattle.otp_tally.proofs.Sums.{sum_by-set, one_le_sum_by}
use Rattle.otp_signals.proofs.Sums.{weigh_all, Below-more, Below-push, Rises-push, words_at-push_here, words_at-push_else, greatest-push, ZeroOrIn-more, look-push, has-slots_below, has-filter, and_false, and_true, between-from, between-to}

-- what holds of each view holds after a change of one
pub each_set : (F : ℕ → SignalsView → Type 0) (views : List SignalsView) (id : ℕ) (w : SignalsView) → F id w → ((j : ℕ) (u : SignalsView) → get_elem? views j ≡ some u → F j u) → (j : ℕ) (u : SignalsView) → get_elem? (set views id w) j ≡ some u → F j u
each_set F views id w mine others j u e =
    ⊎_elim
    (λ (x : (j ≡ id) × (w ≡ u)). subst (λ (y : ℕ × SignalsView). F y.0 y.1) (λ i. (sym x.0 i, x.1 i)) mine)
    (λ (x : (j ≢ id) × (get_elem? views j ≡ some u)). others j u x.1)
    (at_set views id j w u e)

pub in_range : (l : List SignalsView) (i : ℕ) (v : SignalsView) → get_elem? l i ≡ some v → i < length l
in_range [] i v e = absurd (some-ne-none v (sym e))
in_range (x ∷ xs) zero v e = omega arith
in_range (x ∷ xs) (suc i) v e = let p = in_range xs i v e in omega arith

-- the owner of a slot is there after a change of one view that keeps its slots
pub owned_set : (views : List SignalsView) (id : ℕ) (v w : SignalsView) → get_elem? views id ≡ some v → w.holding.slots ≡ v.holding.slots → (slot k : ℕ)
    → ((u : SignalsView) × (get_elem? views k ≡ some u) × (has slot u.holding.slots ≡ true)) → ((u : SignalsView) × (get_elem? (set views id w) k ≡ some u) × (has slot u.holding.slots ≡ true))
owned_set views id v w at same slot k o =
    dite (ℕ_discrete k id)
    (λ (e : k ≡ id). (
      w,
      ap (λ j. get_elem? (set views id w) j) e ∙ set_here views id w (in_range views id v at),
      ap (has slot) same ∙ ap (λ (u : SignalsView). has slot u.holding.slots) (some-injective v o.0 (sym at ∙ ap (get_elem? views) (sym e) ∙ o.1)) ∙ o.2,
    ))
    (λ ne. (o.0, set_else views id k w ne ∙ o.1, o.2))

drawn_number : (views : List SignalsView) (id c : ℕ) (v : SignalsView) → get_elem? views id ≡ some v → 0 < v.holding.quota → NumberRule c views
    → NumberRule (c + 1) (set views id (record v { holding = after_draw c v.holding }))
drawn_number views id c v at some_left k =
    let w : SignalsView = record v { holding = after_draw c v.holding } in
    let mine = k.rises id v at in record {
      begins = let p = k.begins in omega arith;
      once = λ h.
          let s = sum_by-set (λ (u : SignalsView). sum_by h u.holding.drawn) views id v w at in
          let a = weigh_all h views in
          let b = weigh_all h (set views id w) in
          let o = k.once h in
          let p = k.begins in
          let d = sum_by-append h v.holding.drawn (c ∷ []) in
          let n = sum_by-append h (numbers_to (c - 1)) (suc (c - 1) ∷ []) in
          let e : suc (c - 1) ≡ c = omega arith in
          let f : c + 1 - 1 ≡ suc (c - 1) = omega arith in
          let q : h (suc (c - 1)) ≡ h c = ap h e in
          let m : sum_by h (numbers_to (c + 1 - 1)) ≡ sum_by h (numbers_to (suc (c - 1))) = ap (λ j. sum_by h (numbers_to j)) f in
          omega (arith, sum_by-cons h c [], sum_by-cons h (suc (c - 1)) []);
      rises = each_set (λ j u. Rises u.holding.drawn × Below (c + 1) u.holding.drawn) views id w
          (Rises-push v.holding.drawn c mine.0 mine.1, Below-push (c + 1) v.holding.drawn c (Below-more c (c + 1) (omega arith) v.holding.drawn mine.1) (omega arith))
          (λ j u e. let x = k.rises j u e in (x.0, Below-more c (c + 1) (omega arith) u.holding.drawn x.1));
      room = let s = sum_by-set (λ (u : SignalsView). u.holding.quota) views id v w at in let r = k.room in omega arith;
    }

-- the signals stay where a view changes only what it drew, and the counter changes
same_signals : (slots : ℕ) (words : List ℕ) (views : List SignalsView) (id n : ℕ) (v w : SignalsView) (owner : ℕ → ℕ) (posted : ℕ → List ℕ) → get_elem? views id ≡ some v
    → w.holding.slots ≡ v.holding.slots → w.holding.posts ≡ v.holding.posts → w.looks ≡ v.looks → SignalRule slots words views owner posted → SignalRule slots (set words 0 n) (set views id w) owner posted
same_signals slots words views id n v w owner posted at same₁ same₂ same₃ k = record {
  owned = λ slot lt. owned_set views id v w at same₁ slot (owner slot) (k.owned slot lt);
  greatest_is = λ slot lt. get_or-set_other words 0 (slot + 1) n 0 (λ z. omega arith) ∙ k.greatest_is slot lt;
  seats = each_set (λ j u. Owns owner posted j u × Saw posted u) views id w
      (let mine = k.seats id v at in
      let F : List ℕ × List (ℕ × ℕ) × List (ℕ × ℕ) → Type 0 = λ x. ((slot : ℕ) → (has slot x.0 ≡ true → (owner slot ≡ id) × (words_at slot x.1 ≡ posted slot)) × (has slot x.0 ≡ false → words_at slot x.1 ≡ [])) × ((slot : ℕ) → NeverFalls (words_at slot x.2) × ZeroOrIn (posted slot) (words_at slot x.2)) in
      subst F (λ i. (sym same₁ i, sym same₂ i, sym same₃ i)) mine)
      k.seats;
}

pub draws : (slots homes id : ℕ) (v : SignalsView) (cs : List (ℕ × ℕ)) → 0 < v.holding.quota → Allows (KeepsRules slots) homes id (v, cs) 0 (λ n. (n + 1) % 2 ^ 64) (Draws (step homes 0 1 0 none) (v, cs))
draws slots homes id v cs some_left s k no_homes at small =
    let c : ℕ = slice_index s.words 0 in
    let w : SignalsView = record v { holding = after_draw c v.holding } in
    let len = k.words in
    let room = k.numbers.room in
    let one = one_le_sum_by (λ (u : SignalsView). u.holding.quota) s.views id v at in
    let fits : (c + 1) % 2 ^ 64 ≡ c + 1 = omega arith in
    let here : slice_index (set s.words 0 ((c + 1) % 2 ^ 64)) 0 ≡ c + 1 = get_or-set_same s.words 0 ((c + 1) % 2 ^ 64) 0 (omega arith) ∙ fits in
    let sig = k.signals in (
      w,
      keeps,
      tt,
      record {
        words = length-set s.words 0 ((c + 1) % 2 ^ 64) ∙ len;
        numbers = subst (λ n. NumberRule n (set s.views id w)) (sym here) (drawn_number s.views id c v at some_left k.numbers);
        signals = (sig.0, sig.1, same_signals slots s.words s.views id ((c + 1) % 2 ^ 64) v w sig.0 sig.1 at refl refl refl sig.2);
      },
      (refl, k.numbers.begins, omega arith, (k.numbers.rises id v at).1),
    )

-- the numbers stay where a view changes neither its numbers nor its quota, and the word is no counter
same_numbers : (words : List ℕ) (views : List SignalsView) (id slot n : ℕ) (v w : SignalsView) → get_elem? views id ≡ some v → w.holding.drawn ≡ v.holding.drawn → w.holding.quota ≡ v.holding.quota
    → NumberRule (slice_index words 0) views → NumberRule (slice_index (set words (slot + 1) n) 0) (set views id w)
same_numbers words views id slot n v w at same₁ same₂ k =
    let c : ℕ = slice_index words 0 in
    let here : slice_index (set words (slot + 1) n) 0 ≡ c = get_or-set_other words (slot + 1) 0 n 0 (λ z. omega arith) in
    let k' : NumberRule c (set views id w) = record {
      begins = k.begins;
      once = λ h.
          let s = sum_by-set (λ (u : SignalsView). sum_by h u.holding.drawn) views id v w at in
          let a = weigh_all h views in
          let b = weigh_all h (set views id w) in
          let o = k.once h in
          let d : sum_by h w.holding.drawn ≡ sum_by h v.holding.drawn = ap (sum_by h) same₁ in
          omega arith;
      rises = each_set (λ j u. Rises u.holding.drawn × Below c u.holding.drawn) views id w (subst (λ l. Rises l × Below c l) (sym same₁) (k.rises id v at)) k.rises;
      room = let s = sum_by-set (λ (u : SignalsView). u.holding.quota) views id v w at in let r = k.room in omega arith;
    } in
    subst (λ m. NumberRule m (set views id w)) (sym here) k'

-- what is posted where k more is posted at a slot
pub posted_more : (ℕ → List ℕ) → ℕ → ℕ → ℕ → List ℕ
posted_more posted slot k s = cond (s == slot) (posted s ++ k ∷ []) (posted s)

posted_here : (posted : ℕ → List ℕ) (slot k : ℕ) → posted_more posted slot k slot ≡ posted slot ++ k ∷ []
unfolding posted_more
posted_here posted slot k = ap (λ b. cond b (posted slot ++ k ∷ []) (posted slot)) (eq-eqb slot slot refl)

posted_else : (posted : ℕ → List ℕ) (slot k s : ℕ) → s ≢ slot → posted_more posted slot k s ≡ posted s
unfolding posted_more
posted_else posted slot k s ne = ap (λ b. cond b (posted s ++ k ∷ []) (posted s)) (ne_eqb s slot ne)

zero_or_in_more : (posted : ℕ → List ℕ) (slot k s : ℕ) (xs : List ℕ) → ZeroOrIn (posted s) xs → ZeroOrIn (posted_more posted slot k s) xs
zero_or_in_more posted slot k s xs z =
    dite (ℕ_discrete s slot)
    (λ (e : s ≡ slot). subst (λ l. ZeroOrIn l xs) (sym (ap (posted_more posted slot k) e ∙ posted_here posted slot k ∙ ap (λ j. posted j ++ k ∷ []) (sym e))) (ZeroOrIn-more (posted s) k xs z))
    (λ ne. subst (λ l. ZeroOrIn l xs) (sym (posted_else posted slot k s ne)) z)

false_true : (b : Bool) → b ≡ true → b ≡ false → ⊥
false_true b t f = true≢false (sym t ∙ f)

owns_more : (owner : ℕ → ℕ) (posted : ℕ → List ℕ) (id slot k : ℕ) (v : SignalsView) → has slot v.holding.slots ≡ true → Owns owner posted id v
    → Owns owner (posted_more posted slot k) id (record v { holding = after_post slot k v.holding })
owns_more owner posted id slot k v mine o s =
    dite (ℕ_discrete s slot)
    (λ (e : s ≡ slot). (
      (λ h. (((o s).0 h).0, words_at-push_here s v.holding.posts slot k (sym e) ∙ ap (λ l. l ++ k ∷ []) ((o s).0 h).1 ∙ sym (ap (posted_more posted slot k) e ∙ posted_here posted slot k ∙ ap (λ j. posted j ++ k ∷ []) (sym e)))),
      (λ h. absurd (false_true (has s v.holding.slots) (ap (λ j. has j v.holding.slots) e ∙ mine) h)),
    ))
    (λ ne. (
      (λ h. (((o s).0 h).0, words_at-push_else s v.holding.posts slot k (λ (e : slot ≡ s). ne (sym e)) ∙ ((o s).0 h).1 ∙ sym (posted_else posted slot k s ne))),
      (λ h. words_at-push_else s v.holding.posts slot k (λ (e : slot ≡ s). ne (sym e)) ∙ (o s).1 h),
    ))

-- the others own nothing there
owns_others : (owner : ℕ → ℕ) (posted : ℕ → List ℕ) (id slot k j : ℕ) (u : SignalsView) → owner slot ≡ id → j ≢ id → Owns owner posted j u → Owns owner (posted_more posted slot k) j u
owns_others owner posted id slot k j u is ne o s = (
  (λ h. (((o s).0 h).0, ((o s).0 h).1 ∙ sym (posted_else posted slot k s (λ (e : s ≡ slot). ne (sym ((o s).0 h).0 ∙ ap owner e ∙ is))))),
  (o s).1,
)

posted_signals : (slots : ℕ) (words : List ℕ) (views : List SignalsView) (id slot k : ℕ) (v : SignalsView) (owner : ℕ → ℕ) (posted : ℕ → List ℕ) → length words ≡ slots + 1 → get_elem? views id ≡ some v
    → has slot v.holding.slots ≡ true → slot < slots → SignalRule slots words views owner posted
    → SignalRule slots (set words (slot + 1) (max (slice_index words (slot + 1)) k)) (set views id (record v { holding = after_post slot k v.holding })) owner (posted_more posted slot k)
posted_signals slots words views id slot k v owner posted len at mine there g =
    let w : SignalsView = record v { holding = after_post slot k v.holding } in
    let n : ℕ = max (slice_index words (slot + 1)) k in
    let me = g.seats id v at in
    let is : owner slot ≡ id = ((me.0 slot).0 mine).0 in record {
      owned = λ s lt. owned_set views id v w at refl s (owner s) (g.owned s lt);
      greatest_is = λ s lt. dite (ℕ_discrete s slot)
          (λ (e : s ≡ slot).
          ap (λ j. slice_index (set words (slot + 1) n) (j + 1)) e ∙ get_or-set_same words (slot + 1) n 0 (omega arith) ∙ ap (λ m. max m k) (g.greatest_is slot there) ∙ sym (greatest-push (posted slot) k)
          ∙ sym (ap greatest (ap (posted_more posted slot k) e ∙ posted_here posted slot k)))
          (λ ne. get_or-set_other words (slot + 1) (s + 1) n 0 (λ z. ne (omega arith)) ∙ g.greatest_is s lt ∙ sym (ap greatest (posted_else posted slot k s ne)));
      seats = λ j u e. ⊎_elim
          (λ (x : (j ≡ id) × (w ≡ u)). subst (λ (y : ℕ × SignalsView). Owns owner (posted_more posted slot k) y.0 y.1 × Saw (posted_more posted slot k) y.1) (λ i. (sym x.0 i, x.1 i))
          (owns_more owner posted id slot k v mine me.0, (λ s. ((me.1 s).0, zero_or_in_more posted slot k s (words_at s v.looks) (me.1 s).1))))
          (λ (x : (j ≢ id) × (get_elem? views j ≡ some u)). let o = g.seats j u x.1 in
          (owns_others owner posted id slot k j u is x.0 o.0, (λ s. ((o.1 s).0, zero_or_in_more posted slot k s (words_at s u.looks) (o.1 s).1))))
          (at_set views id j w u e);
    }

pub posts : (slots homes id slot k : ℕ) (v : SignalsView) (cs : List (ℕ × ℕ)) → has slot v.holding.slots ≡ true → slot < slots → Allows (KeepsRules slots) homes id (v, cs) (slot + 1) (λ n. max n k) (Posts (step homes (slot + 1) k 0 none) (v, cs))
posts slots homes id slot k v cs mine there s h no_homes at small =
    let sig = h.signals in
    let n : ℕ = max (slice_index s.words (slot + 1)) k in
    let e : slot + 1 - 1 ≡ slot = omega arith in (
      record v { holding = after_post slot k v.holding },
      keeps,
      tt,
      record {
        words = length-set s.words (slot + 1) n ∙ h.words;
        numbers = same_numbers s.words s.views id slot n v (record v { holding = after_post slot k v.holding }) at refl refl h.numbers;
        signals = (sig.0, posted_more sig.1 slot k, posted_signals slots s.words s.views id slot k v sig.0 sig.1 h.words at mine there sig.2);
      },
      ap (λ j. (record v { holding = after_post j k v.holding }, cs)) (sym e),
    )

-- a look at the word of a slot
looked : (slots : ℕ) (words : List ℕ) (views : List SignalsView) (id slot : ℕ) (v : SignalsView) (owner : ℕ → ℕ) (posted : ℕ → List ℕ) → get_elem? views id ≡ some v → slot < slots → SignalRule slots words views owner posted
    → SignalRule slots words (set views id (record v { looks = v.looks ++ (slot, slice_index words (slot + 1)) ∷ [] })) owner posted
looked slots words views id slot v owner posted at there g =
    let n : ℕ = slice_index words (slot + 1) in
    let w : SignalsView = record v { looks = v.looks ++ (slot, n) ∷ [] } in
    let me = g.seats id v at in record {
      owned = λ s lt. owned_set views id v w at refl s (owner s) (g.owned s lt);
      greatest_is = g.greatest_is;
      seats = each_set (λ j u. Owns owner posted j u × Saw posted u) views id w (
        me.0,
        (λ s. dite (ℕ_discrete s slot)
            (λ (e : s ≡ slot).
            let here : words_at s w.looks ≡ words_at s v.looks ++ n ∷ [] = words_at-push_here s v.looks slot n (sym e) in
            let top : n ≡ greatest (posted s) = g.greatest_is slot there ∙ ap (λ j. greatest (posted j)) (sym e) in
            subst (λ l. NeverFalls l × ZeroOrIn (posted s) l) (sym here)
            (subst (λ m. NeverFalls (words_at s v.looks ++ m ∷ []) × ZeroOrIn (posted s) (words_at s v.looks ++ m ∷ [])) (sym top) (look-push (posted s) (words_at s v.looks) (me.1 s).0 (me.1 s).1)))
            (λ ne. subst (λ l. NeverFalls l × ZeroOrIn (posted s) l) (sym (words_at-push_else s v.looks slot n (λ (e : slot ≡ s). ne (sym e)))) (me.1 s))),
      )
          g.seats;
    }

pub looks_at : (slots homes id slot : ℕ) (v : SignalsView) (cs : List (ℕ × ℕ)) → slot < slots → Allows (KeepsRules slots) homes id (v, cs) (slot + 1) (λ n. n) (Looks (step homes (slot + 1) 0 0 none) (v, cs))
looks_at slots homes id slot v cs there s h no_homes at small =
    let sig = h.signals in
    let n : ℕ = slice_index s.words (slot + 1) in
    let w : SignalsView = record v { looks = v.looks ++ (slot, n) ∷ [] } in
    let e : slot + 1 - 1 ≡ slot = omega arith in
    let stays : set s.words (slot + 1) n ≡ s.words = set-get_or s.words (slot + 1) 0 in (
      w,
      keeps,
      tt,
      record {
        words = length-set s.words (slot + 1) n ∙ h.words;
        numbers = same_numbers s.words s.views id slot n v w at refl refl h.numbers;
        signals = (sig.0, sig.1, subst (λ ws. SignalRule slots ws (set s.views id w) sig.0 sig.1) (sym stays) (looked slots s.words s.views id slot v sig.0 sig.1 at there sig.2));
      },
      ap (λ j. (record v { looks = v.looks ++ (j, n) ∷ [] }, cs)) (sym e),
    )

only_first : (v u : SignalsView) (id : ℕ) → get_elem? (v ∷ []) id ≡ some u → (id ≡ 0) × (v ≡ u)
only_first v u zero e = (refl, some-injective v u e)
only_first v u (suc id) e = absurd (some-ne-none u (sym e))

get_or-replicate_zero : (m slot : ℕ) → slice_index (replicate m 0) slot ≡ 0
get_or-replicate_zero zero slot = refl
get_or-replicate_zero (suc m) zero = refl
get_or-replicate_zero (suc m) (suc slot) = get_or-replicate_zero m slot

pub opens : (n : ℕ) (ws : List ℕ) → ws ≡ 1 ∷ replicate n 0 → KeepsRules n (opening ws [] (first_view n))
opens n ws is = subst (λ l. KeepsRules n (opening l [] (first_view n))) (sym is) record {
  words = let p : length (replicate {A = ℕ} n 0) ≡ n = length-replicate {A = ℕ} n 0 in omega arith;
  numbers = record {
    begins = lit≤ tt;
    once = λ h. refl;
    rises = λ id v e. subst (λ (u : SignalsView). Rises u.holding.drawn × Below 1 u.holding.drawn) (only_first (first_view n) v id e).1 (tt, tt);
    room = refl;
  };
  signals = (
    (λ _. 0),
    (λ _. []),
    record {
      owned = λ slot lt. (first_view n, refl, has-slots_below n slot lt);
      greatest_is = λ slot lt. ap (slice_index (1 ∷ replicate n 0)) (add-one slot) ∙ get_or-replicate_zero n slot;
      seats = λ id v e. let x = only_first (first_view n) v id e in subst (λ (y : ℕ × SignalsView). Owns (λ _. 0) (λ _. []) y.0 y.1 × Saw (λ _. []) y.1) (λ i. (sym x.0 i, x.1 i))
          ((λ slot. ((λ h. (refl, refl)), (λ h. refl))), (λ slot. (tt, tt)));
    },
  );
}

at_end : (l : List SignalsView) (a b : SignalsView) (j : ℕ) → get_elem? (l ++ a ∷ []) j ≡ some b → (get_elem? l j ≡ some b) ⊎ ((j ≡ length l) × (a ≡ b))
at_end [] a b zero e = inr (refl, some-injective a b e)
at_end [] a b (suc j) e = absurd (some-ne-none b (sym e))
at_end (x ∷ xs) a b zero e = inl e
at_end (x ∷ xs) a b (suc j) e = ⊎_elim (λ t. inl t) (λ (t : (j ≡ length xs) × (a ≡ b)). inr (ap suc t.0, t.1)) (at_end xs a b j e)

-- what holds of each view holds after one is cut in two
pub each_cut : (F : ℕ → SignalsView → Type 0) (views : List SignalsView) (id : ℕ) (l r : SignalsView) → F id l → F (length views) r → ((j : ℕ) (u : SignalsView) → j ≢ id → get_elem? views j ≡ some u → F j u)
    → (j : ℕ) (u : SignalsView) → get_elem? (set views id l ++ r ∷ []) j ≡ some u → F j u
each_cut F views id l r mine new others j u e =
    ⊎_elim
    (λ was. ⊎_elim
    (λ (x : (j ≡ id) × (l ≡ u)). subst (λ (y : ℕ × SignalsView). F y.0 y.1) (λ i. (sym x.0 i, x.1 i)) mine)
    (λ (x : (j ≢ id) × (get_elem? views j ≡ some u)). others j u x.0 x.1)
    (at_set views id j l u was))
    (λ (x : (j ≡ length (set views id l)) × (r ≡ u)). subst (λ (y : ℕ × SignalsView). F y.0 y.1) (λ i. (sym (x.0 ∙ length-set views id l) i, x.1 i)) new)
    (at_end (set views id l) r u j e)

pub cut_numbers : (views : List SignalsView) (id c : ℕ) (v l r : SignalsView) → get_elem? views id ≡ some v → l.holding.drawn ≡ v.holding.drawn → r.holding.drawn ≡ [] → l.holding.quota + r.holding.quota ≡ v.holding.quota → NumberRule c views → NumberRule c (set views id l ++ r ∷ [])
cut_numbers views id c v l r at same empty quota k = record {
  begins = k.begins;
  once = λ h.
      let f : SignalsView → ℕ = λ u. sum_by h u.holding.drawn in
      let s = sum_by-set f views id v l at in
      let a = weigh_all h views in
      let b = weigh_all h (set views id l ++ r ∷ []) in
      let o = k.once h in
      let d : sum_by h l.holding.drawn ≡ sum_by h v.holding.drawn = ap (sum_by h) same in
      let z : sum_by h r.holding.drawn ≡ 0 = ap (sum_by h) empty in
      omega (arith, sum_by-append f (set views id l) (r ∷ []), sum_by-cons f r []);
  rises = each_cut (λ j u. Rises u.holding.drawn × Below c u.holding.drawn) views id l r (subst (λ xs. Rises xs × Below c xs) (sym same) (k.rises id v at)) (subst (λ xs. Rises xs × Below c xs) (sym empty) (tt, tt)) (λ j u ne e. k.rises j u e);
  room =
      let f : SignalsView → ℕ = λ u. u.holding.quota in
      let s = sum_by-set f views id v l at in
      let o = k.room in
      omega (arith, sum_by-append f (set views id l) (r ∷ []), sum_by-cons f r []);
}

-- the owners after a cut
pub owner_after : (ℕ → ℕ) → ℕ → ℕ → ℕ → ℕ → ℕ
owner_after owner from to new s = cond (between from to s) new (owner s)

owner_in : (owner : ℕ → ℕ) (from to new s : ℕ) → between from to s ≡ true → owner_after owner from to new s ≡ new
unfolding owner_after
owner_in owner from to new s b = ap (λ t. cond t new (owner s)) b

owner_out : (owner : ℕ → ℕ) (from to new s : ℕ) → between from to s ≡ false → owner_after owner from to new s ≡ owner s
unfolding owner_after
owner_out owner from to new s b = ap (λ t. cond t new (owner s)) b

true_or_false : (b : Bool) → (b ≡ true) ⊎ (b ≡ false)
true_or_false true = inl refl
true_or_false false = inr refl

cut_signals : (slots : ℕ) (words : List ℕ) (views : List SignalsView) (id from to quota : ℕ) (v : SignalsView) (owner : ℕ → ℕ) (posted : ℕ → List ℕ) → get_elem? views id ≡ some v
    → ((slot : ℕ) → from ≤ slot → slot < to → (has slot v.holding.slots ≡ true) × (words_at slot v.holding.posts ≡ []))
    → SignalRule slots words views owner posted
    → SignalRule slots words (set views id (kept_view from to quota v) ++ cut_view from to quota v ∷ []) (owner_after owner from to (length views)) posted
cut_signals slots words views id from to quota v owner posted at free g =
    let l : SignalsView = kept_view from to quota v in
    let r : SignalsView = cut_view from to quota v in
    let new : ℕ = length views in
    let mine = g.seats id v at in
    let inside : (s : ℕ) → between from to s ≡ true → (has s v.holding.slots ≡ true) × (words_at s v.holding.posts ≡ []) = λ s b. free s (between-from from to s b) (between-to from to s b) in
    let is_mine : (s : ℕ) → between from to s ≡ true → owner s ≡ id = λ s b. ((mine.0 s).0 (inside s b).0).0 in
    let nothing : (s : ℕ) → between from to s ≡ true → posted s ≡ [] = λ s b. sym ((mine.0 s).0 (inside s b).0).1 ∙ (inside s b).1 in record {
      owned = λ s lt. ⊎_elim
          (λ (b : between from to s ≡ true). (
            r,
            ap (get_elem? (set views id l ++ r ∷ [])) (owner_in owner from to new s b) ∙ at_last (set views id l) r new (length-set views id l),
            has-filter (between from to) s v.holding.slots ∙ ap (λ t. has s v.holding.slots && t) b ∙ ap (λ t. t && true) (inside s b).0,
          ))
          (λ (b : between from to s ≡ false). let o = g.owned s lt in dite (ℕ_discrete (owner s) id)
          (λ (e : owner s ≡ id). (
            l,
            at_longer (set views id l) (r ∷ []) _ l (ap (get_elem? (set views id l)) (owner_out owner from to new s b ∙ e) ∙ set_here views id l (in_range views id v at)),
            has-filter (λ t. not (between from to t)) s v.holding.slots ∙ ap (λ t. has s v.holding.slots && not t) b ∙ ap (λ t. t && true) (ap (λ (u : SignalsView). has s u.holding.slots) (some-injective v o.0 (sym at ∙ ap (get_elem? views) (sym e) ∙ o.1)) ∙ o.2),
          ))
          (λ ne. (
            o.0,
            at_longer (set views id l) (r ∷ []) _ o.0 (ap (get_elem? (set views id l)) (owner_out owner from to new s b) ∙ set_else views id (owner s) l ne ∙ o.1),
            o.2,
          )))
          (true_or_false (between from to s));
      greatest_is = g.greatest_is;
      seats = each_cut (λ j u. Owns (owner_after owner from to new) posted j u × Saw posted u) views id l r (
        (λ s. ⊎_elim
            (λ (b : between from to s ≡ true). (
              (λ h. absurd (false_true _ h (has-filter (λ t. not (between from to t)) s v.holding.slots ∙ ap (λ t. has s v.holding.slots && not t) b ∙ and_false (has s v.holding.slots)))),
              (λ h. (inside s b).1),
            ))
            (λ (b : between from to s ≡ false).
            let same : has s l.holding.slots ≡ has s v.holding.slots = has-filter (λ t. not (between from to t)) s v.holding.slots ∙ ap (λ t. has s v.holding.slots && not t) b ∙ and_true (has s v.holding.slots) in (
              (λ h. let o = (mine.0 s).0 (sym same ∙ h) in (owner_out owner from to new s b ∙ o.0, o.1)),
              (λ h. (mine.0 s).1 (sym same ∙ h)),
            ))
            (true_or_false (between from to s))),
        mine.1,
      ) (
        (λ s. (
          (λ h. ⊎_elim
              (λ (b : between from to s ≡ true). (owner_in owner from to new s b, sym (nothing s b)))
              (λ (b : between from to s ≡ false). absurd (false_true _ h (has-filter (between from to) s v.holding.slots ∙ ap (λ t. has s v.holding.slots && t) b ∙ and_false (has s v.holding.slots))))
              (true_or_false (between from to s))),
          (λ h. refl),
        )),
        (λ s. (tt, tt)),
      )
          (λ j u ne e. let o = g.seats j u e in (
            (λ s. (
              (λ h. ⊎_elim
                  (λ (b : between from to s ≡ true). absurd (ne (sym ((o.0 s).0 h).0 ∙ is_mine s b)))
                  (λ (b : between from to s ≡ false). (owner_out owner from to new s b ∙ ((o.0 s).0 h).0, ((o.0 s).0 h).1))
                  (true_or_false (between from to s))),
              (o.0 s).1,
            )),
            o.1,
          ));
    }

pub cuts : (slots id from to quota : ℕ) (v : SignalsView) → quota ≤ v.holding.quota → ((slot : ℕ) → from ≤ slot → slot < to → (has slot v.holding.slots ≡ true) × (words_at slot v.holding.posts ≡ []))
    → Splits {S = ℕ} (KeepsRules slots) id v (kept_view from to quota v) (cut_view from to quota v)
cuts slots id from to quota v le free s k at =
    let sig = k.signals in record {
      words = k.words;
      numbers = cut_numbers s.views id (slice_index s.words 0) v (kept_view from to quota v) (cut_view from to quota v) at refl refl (omega arith) k.numbers;
      signals = (owner_after sig.0 from to (length s.views), sig.1, cut_signals slots s.words s.views id from to quota v sig.0 sig.1 at free sig.2);
    }

-- a load of the counter changes nothing
pub loaded : (slots id : ℕ) (v : SignalsView) (s : State ℕ SignalsView) → KeepsRules slots s → get_elem? s.views id ≡ some v
    → KeepsRules slots record { words = set s.words 0 (slice_index s.words 0); homes = s.homes; views = set s.views id v }
loaded slots id v s k at =
    let same : set s.words 0 (slice_index s.words 0) ≡ s.words = set-get_or s.words 0 0 in
    let views : set s.views id v ≡ s.views = set_again s.views id v at in
    subst (λ (x : List ℕ × List SignalsView). KeepsRules slots record { words = x.0; homes = s.homes; views = x.1 }) (λ i. (sym same i, sym views i)) k

-- a seat that may only look
pub parts_blank : (slots id : ℕ) (v : SignalsView) → Splits {S = ℕ} (KeepsRules slots) id v v blank_view
parts_blank slots id v s k at =
    let sig = k.signals in
    let g = sig.2 in
    let same : set s.views id v ≡ s.views = set_again s.views id v at in record {
      words = k.words;
      numbers = cut_numbers s.views id (slice_index s.words 0) v v blank_view at refl refl (add-zero v.holding.quota) k.numbers;
      signals = (
        sig.0,
        sig.1,
        record {
          owned = λ t lt. let o = g.owned t lt in (o.0, at_longer (set s.views id v) (blank_view ∷ []) _ o.0 (ap (λ l. get_elem? l (sig.0 t)) same ∙ o.1), o.2);
          greatest_is = g.greatest_is;
          seats = each_cut (λ j u. Owns sig.0 sig.1 j u × Saw sig.1 u) s.views id v blank_view (g.seats id v at) ((λ t. ((λ h. absurd (true≢false (sym h))), (λ h. refl))), (λ t. (tt, tt))) (λ j u ne e. g.seats j u e);
        },
      );
    }
