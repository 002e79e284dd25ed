-- An owner may take in another.
use Rattle.std.proofs.Common.{◌≡◌, ◌≢◌, ◌⊎◌, ⊎_elim, ℕ, zero, suc, ◌+◌, ◌-◌, ◌<◌, ◌≤◌, ◌==◌, ◌||◌, Bool, true, false, true≢false, cond, ltb, lt-ltb, le-ltb, eq-eqb, ne_eqb, lt_of_not-le, List, [], ◌∷◌, ◌++◌, length, set, refl, sym, ap, ◌∙◌, subst, inl, inr, arith, append-nil}
use Rattle.std.specs.Prelude.{sum_by, slice_index}
use Rattle.std.proofs.lemmas.List.Sums.{sum_by-append, sum_by-cons}
use mathlib.Core.Option.{some, some-ne-none, some-injective}
use mathlib.Core.Logic.{dite}
use native.Mathlib.Decide.{ℕ_discrete, dec_le}
use lib.ListN.{get_elem?}
use Rattle.atomic_table.specs.Table.{Joins}
use Rattle.atomic_table.proofs.Lists.{at_set, set_here, set_else}
use Rattle.otp_signals.specs.declared.view.SignalsView.{SignalsView}
use Rattle.otp_signals.specs.Lists.{numbers_to, Below, Above, Rises, Stands, has, words_at, with_number, merge}
use Rattle.otp_signals.specs.Rules.{blank_view, joined_view, NumberRule, Owns, Saw, KeepsRules}
use Rattle.otp_tally.proofs.Sums.{sum_by-set, one_le_sum_by}
use Rattle.otp_signals.proofs.Sums.{weigh_all}

pub by_order : (x y : ℕ) (F : Bool → Type 0) → (x < y → F true) → (y ≤ x → F false) → F (ltb x y)
by_order x y F lo hi = dite (dec_le y x) (λ (le : y ≤ x). subst F (sym (le-ltb x y le)) (hi le)) (λ gt. subst F (sym (lt-ltb x y (lt_of_not-le gt))) (lo (lt_of_not-le gt)))

sum_by-with_number : (h : ℕ → ℕ) (x : ℕ) (ys : List ℕ) → sum_by h (with_number x ys) ≡ h x + sum_by h ys
sum_by-with_number h x [] = sum_by-cons h x []
sum_by-with_number h x (y ∷ ys) =
    let p = sum_by-with_number h x ys in
    by_order x y (λ b. sum_by h (cond b (x ∷ y ∷ ys) (y ∷ with_number x ys)) ≡ h x + sum_by h (y ∷ ys)) (λ lt. sum_by-cons h x (y ∷ ys)) (λ le. omega (arith, sum_by-cons h y (with_number x ys), sum_by-cons h y ys))

pub sum_by-merge : (h : ℕ → ℕ) (xs ys : List ℕ) → sum_by h (merge xs ys) ≡ sum_by h xs + sum_by h ys
sum_by-merge h [] ys = omega arith
sum_by-merge h (x ∷ xs) ys = let p = sum_by-merge h xs ys in omega (arith, sum_by-with_number h x (merge xs ys), sum_by-cons h x xs)

Below-with_number : (n x : ℕ) (ys : List ℕ) → Below n ys → x < n → Below n (with_number x ys)
Below-with_number n x [] b lt = (lt, tt)
Below-with_number n x (y ∷ ys) b lt = by_order x y (λ t. Below n (cond t (x ∷ y ∷ ys) (y ∷ with_number x ys))) (λ _. (lt, b)) (λ _. (b.0, Below-with_number n x ys b.1 lt))

pub Below-merge : (n : ℕ) (xs ys : List ℕ) → Below n xs → Below n ys → Below n (merge xs ys)
Below-merge n [] ys a b = b
Below-merge n (x ∷ xs) ys a b = Below-with_number n x (merge xs ys) (Below-merge n xs ys a.1 b) a.0

Above-with_number : (n x : ℕ) (ys : List ℕ) → Above n ys → n < x → Above n (with_number x ys)
Above-with_number n x [] a lt = (lt, tt)
Above-with_number n x (y ∷ ys) a lt = by_order x y (λ t. Above n (cond t (x ∷ y ∷ ys) (y ∷ with_number x ys))) (λ _. (lt, a)) (λ _. (a.0, Above-with_number n x ys a.1 lt))

Above-less : (m n : ℕ) (ys : List ℕ) → m < n → Above n ys → Above m ys
Above-less m n [] lt a = tt
Above-less m n (y ∷ ys) lt a = (let p = a.0 in omega arith, Above-less m n ys lt a.1)

pub Above-not : (n : ℕ) (ys : List ℕ) → Above n ys → Stands n ys → ⊥
Above-not n [] a s = s
Above-not n (y ∷ ys) a s = ⊎_elim (λ (e : n ≡ y). let p = a.0 in absurd (omega arith)) (λ (r : Stands n ys). Above-not n ys a.1 r) s

Rises-with_number : (x : ℕ) (ys : List ℕ) → Rises ys → (Stands x ys → ⊥) → Rises (with_number x ys)
Rises-with_number x [] r n = (tt, tt)
Rises-with_number x (y ∷ ys) r n = by_order x y (λ t. Rises (cond t (x ∷ y ∷ ys) (y ∷ with_number x ys)))
    (λ lt. ((lt, Above-less x y ys lt r.0), r))
    (λ le. let lt : y < x = let ne : x ≢ y = λ e. n (inl e) in omega arith in (Above-with_number y x ys r.0 lt, Rises-with_number x ys r.1 (λ s. n (inr s))))

pub Stands-with_number_new : (z x : ℕ) (ys : List ℕ) → z ≡ x → Stands z (with_number x ys)
Stands-with_number_new z x [] e = inl e
Stands-with_number_new z x (y ∷ ys) e = by_order x y (λ b. Stands z (cond b (x ∷ y ∷ ys) (y ∷ with_number x ys))) (λ _. inl e) (λ _. inr (Stands-with_number_new z x ys e))

pub Stands-with_number_old : (z x : ℕ) (ys : List ℕ) → Stands z ys → Stands z (with_number x ys)
Stands-with_number_old z x [] s = absurd s
Stands-with_number_old z x (y ∷ ys) s = by_order x y (λ b. Stands z (cond b (x ∷ y ∷ ys) (y ∷ with_number x ys)))
    (λ _. inr s)
    (λ _. ⊎_elim (λ (e : z ≡ y). inl e) (λ (r : Stands z ys). inr (Stands-with_number_old z x ys r)) s)

Stands-with_number : (z x : ℕ) (ys : List ℕ) → Stands z (with_number x ys) → (z ≡ x) ⊎ Stands z ys
Stands-with_number z x [] s = s
Stands-with_number z x (y ∷ ys) t = by_order x y (λ b. Stands z (cond b (x ∷ y ∷ ys) (y ∷ with_number x ys)) → (z ≡ x) ⊎ Stands z (y ∷ ys))
    (λ _ s. s)
    (λ _ s. ⊎_elim (λ (e : z ≡ y). inr (inl e)) (λ (r : Stands z (with_number x ys)). ⊎_elim (λ (e : z ≡ x). inl e) (λ (q : Stands z ys). inr (inr q)) (Stands-with_number z x ys r)) s)
    t

Stands-merge : (z : ℕ) (xs ys : List ℕ) → Stands z (merge xs ys) → Stands z xs ⊎ Stands z ys
Stands-merge z [] ys s = inr s
Stands-merge z (x ∷ xs) ys s = ⊎_elim (λ (e : z ≡ x). inl (inl e)) (λ (r : Stands z (merge xs ys)). ⊎_elim (λ (q : Stands z xs). inl (inr q)) (λ (q : Stands z ys). inr q) (Stands-merge z xs ys r)) (Stands-with_number z x (merge xs ys) s)

Rises-merge : (xs ys : List ℕ) → Rises xs → Rises ys → ((z : ℕ) → Stands z xs → Stands z ys → ⊥) → Rises (merge xs ys)
Rises-merge [] ys a b n = b
Rises-merge (x ∷ xs) ys a b n =
    Rises-with_number x (merge xs ys) (Rises-merge xs ys a.1 b (λ z s t. n z (inr s) t))
    (λ s. ⊎_elim (λ (q : Stands x xs). Above-not x xs a.0 q) (λ (q : Stands x ys). n x (inl refl) q) (Stands-merge x xs ys s))

pub is : ℕ → ℕ → ℕ
is x y = cond (x == y) 1 0

pub is-same : (x y : ℕ) → x ≡ y → is x y ≡ 1
unfolding is
is-same x y e = ap (λ b. cond b 1 0) (eq-eqb x y e)

pub is-else : (x y : ℕ) → x ≢ y → is x y ≡ 0
unfolding is
is-else x y ne = ap (λ b. cond b 1 0) (ne_eqb x y ne)

pub none_above : (x n : ℕ) → n < x → sum_by (is x) (numbers_to n) ≡ 0
none_above x zero lt = refl
none_above x (suc n) lt = let p = none_above x n (omega arith) in let q = is-else x (suc n) (λ e. omega arith) in omega (arith, sum_by-append (is x) (numbers_to n) (suc n ∷ []), sum_by-cons (is x) (suc n) [])

once_at_most : (x n : ℕ) → sum_by (is x) (numbers_to n) ≤ 1
once_at_most x zero = omega arith
once_at_most x (suc n) =
    let a = sum_by-append (is x) (numbers_to n) (suc n ∷ []) in
    let b = sum_by-cons (is x) (suc n) [] in
    dite (ℕ_discrete x (suc n))
    (λ (e : x ≡ suc n). let p = none_above x n (omega arith) in let q = is-same x (suc n) e in omega arith)
    (λ ne. let p = once_at_most x n in let q = is-else x (suc n) ne in omega arith)

pub stands_counts : (x : ℕ) (ys : List ℕ) → Stands x ys → 1 ≤ sum_by (is x) ys
stands_counts x [] s = absurd s
stands_counts x (y ∷ ys) s = let c = sum_by-cons (is x) y ys in ⊎_elim (λ (e : x ≡ y). let p = is-same x y e in omega arith) (λ (r : Stands x ys). let p = stands_counts x ys r in omega arith) s

-- two owners drew no number in common
apart : (views : List SignalsView) (id other c : ℕ) (v w : SignalsView) → get_elem? views id ≡ some v → other ≢ id → get_elem? views other ≡ some w → NumberRule c views → (z : ℕ) → Stands z v.holding.drawn → Stands z w.holding.drawn → ⊥
apart views id other c v w at ne there k z s t =
    let f : SignalsView → ℕ = λ u. sum_by (is z) u.holding.drawn in
    let a = sum_by-set f views id v blank_view at in
    let b = one_le_sum_by f (set views id blank_view) other w (set_else views id other blank_view ne ∙ there) in
    let o = k.once (is z) in
    let g = weigh_all (is z) views in
    let m = once_at_most z (c - 1) in
    let p = stands_counts z v.holding.drawn s in
    let q = stands_counts z w.holding.drawn t in
    omega arith

pub has-append : (s : ℕ) (xs ys : List ℕ) → has s (xs ++ ys) ≡ (has s xs || has s ys)
has-append s [] ys = refl
has-append s (x ∷ xs) ys = elim (s == x) as (λ b. (b || has s (xs ++ ys)) ≡ ((b || has s xs) || has s ys)) [ true ↦ refl | false ↦ has-append s xs ys ]

words_at-append : (s : ℕ) (ps qs : List (ℕ × ℕ)) → words_at s (ps ++ qs) ≡ words_at s ps ++ words_at s qs
words_at-append s [] qs = refl
words_at-append s (p ∷ ps) qs = elim (p.0 == s) as (λ b. cond b (p.1 ∷ words_at s (ps ++ qs)) (words_at s (ps ++ qs)) ≡ cond b (p.1 ∷ words_at s ps) (words_at s ps) ++ words_at s qs) [
  | true ↦ ap (λ l. p.1 ∷ l) (words_at-append s ps qs)
  | false ↦ words_at-append s ps qs
]

or_true : (b : Bool) → (b || true) ≡ true
or_true true = refl
or_true false = refl

or_false : (b : Bool) → (b || false) ≡ b
or_false true = refl
or_false false = refl

pub cases : (b : Bool) → (b ≡ true) ⊎ (b ≡ false)
cases true = inl refl
cases false = inr refl

no_both : (b : Bool) → b ≡ true → b ≡ false → ⊥
no_both b t f = true≢false (sym t ∙ f)

within : (l : List SignalsView) (i : ℕ) (v : SignalsView) → get_elem? l i ≡ some v → i < length l
within [] i v e = absurd (some-ne-none v (sym e))
within (x ∷ xs) zero v e = omega arith
within (x ∷ xs) (suc i) v e = let p = within xs i v e in omega arith

-- what holds of each view after two have changed
pub each_two : (F : ℕ → SignalsView → Type 0) (views : List SignalsView) (id other : ℕ) (b z : SignalsView) → F id b → F other z → ((j : ℕ) (u : SignalsView) → j ≢ id → j ≢ other → get_elem? views j ≡ some u → F j u)
    → (j : ℕ) (u : SignalsView) → get_elem? (set (set views id b) other z) j ≡ some u → F j u
each_two F views id other b z mine theirs others j u e =
    ⊎_elim
    (λ (x : (j ≡ other) × (z ≡ u)). subst (λ (y : ℕ × SignalsView). F y.0 y.1) (λ i. (sym x.0 i, x.1 i)) theirs)
    (λ (x : (j ≢ other) × (get_elem? (set views id b) j ≡ some u)). ⊎_elim
    (λ (y : (j ≡ id) × (b ≡ u)). subst (λ (p : ℕ × SignalsView). F p.0 p.1) (λ i. (sym y.0 i, y.1 i)) mine)
    (λ (y : (j ≢ id) × (get_elem? views j ≡ some u)). others j u y.0 x.0 y.1)
    (at_set views id j b u x.1))
    (at_set (set views id b) other j z u e)

owner_joined : (ℕ → ℕ) → List ℕ → ℕ → ℕ → ℕ
owner_joined owner slots id s = cond (has s slots) id (owner s)

owner_here : (owner : ℕ → ℕ) (slots : List ℕ) (id s : ℕ) → has s slots ≡ true → owner_joined owner slots id s ≡ id
unfolding owner_joined
owner_here owner slots id s h = ap (λ b. cond b id (owner s)) h

owner_else : (owner : ℕ → ℕ) (slots : List ℕ) (id s : ℕ) → has s slots ≡ false → owner_joined owner slots id s ≡ owner s
unfolding owner_joined
owner_else owner slots id s h = ap (λ b. cond b id (owner s)) h

pub joins : (slots id : ℕ) (v : SignalsView) (other : ℕ) (w : SignalsView) → Joins {S = ℕ} (KeepsRules slots) id v other w (joined_view v w) blank_view
joins slots id v other w s k at ne there' =
    let b : SignalsView = joined_view v w in
    let there : get_elem? s.views other ≡ some w = ⊎_elim (λ (t : (other ≡ id) × (b ≡ w)). absurd (ne t.0)) (λ (t : (other ≢ id) × (get_elem? s.views other ≡ some w)). t.1) (at_set s.views id other b w there') in
    let n = k.numbers in
    let c : ℕ = slice_index s.words 0 in
    let sig = k.signals in
    let owner = sig.0 in
    let posted = sig.1 in
    let g = sig.2 in
    let mine = g.seats id v at in
    let theirs = g.seats other w there in
    let now : ℕ → ℕ = owner_joined owner w.holding.slots id in record {
      words = k.words;
      numbers = record {
        begins = n.begins;
        once = λ h.
            let f : SignalsView → ℕ = λ u. sum_by h u.holding.drawn in
            let x = sum_by-set f s.views id v b at in
            let y = sum_by-set f (set s.views id b) other w blank_view there' in
            let p = weigh_all h s.views in
            let q = weigh_all h (set (set s.views id b) other blank_view) in
            let o = n.once h in
            let m = sum_by-merge h v.holding.drawn w.holding.drawn in
            omega arith;
        rises = each_two (λ j u. Rises u.holding.drawn × Below c u.holding.drawn) s.views id other b blank_view
            (let p = n.rises id v at in let q = n.rises other w there in (Rises-merge v.holding.drawn w.holding.drawn p.0 q.0 (apart s.views id other c v w at ne there n), Below-merge c v.holding.drawn w.holding.drawn p.1 q.1))
            (tt, tt)
            (λ j u _ _ e. n.rises j u e);
        room =
            let f : SignalsView → ℕ = λ u. u.holding.quota in
            let x = sum_by-set f s.views id v b at in
            let y = sum_by-set f (set s.views id b) other w blank_view there' in
            let o = n.room in
            omega arith;
      };
      signals = (
        now,
        posted,
        record {
          owned = λ t lt. ⊎_elim
              (λ (h : has t w.holding.slots ≡ true). (
                b,
                ap (get_elem? (set (set s.views id b) other blank_view)) (owner_here owner w.holding.slots id t h) ∙ set_else (set s.views id b) other id blank_view (λ e. ne (sym e)) ∙ set_here s.views id b (within s.views id v at),
                has-append t v.holding.slots w.holding.slots ∙ ap (λ x. has t v.holding.slots || x) h ∙ or_true (has t v.holding.slots),
              ))
              (λ (h : has t w.holding.slots ≡ false).
              let o = g.owned t lt in
              let far : owner t ≢ other = λ e. no_both (has t w.holding.slots) (ap (λ (u : SignalsView). has t u.holding.slots) (some-injective w o.0 (sym there ∙ ap (get_elem? s.views) (sym e) ∙ o.1)) ∙ o.2) h in
              let at' : get_elem? (set (set s.views id b) other blank_view) (now t) ≡ get_elem? (set s.views id b) (owner t) = ap (get_elem? (set (set s.views id b) other blank_view)) (owner_else owner w.holding.slots id t h) ∙ set_else (set s.views id b) other (owner t) blank_view far in
              dite (ℕ_discrete (owner t) id)
              (λ (e : owner t ≡ id). (
                b,
                at' ∙ ap (get_elem? (set s.views id b)) e ∙ set_here s.views id b (within s.views id v at),
                has-append t v.holding.slots w.holding.slots ∙ ap (λ x. x || has t w.holding.slots) (ap (λ (u : SignalsView). has t u.holding.slots) (some-injective v o.0 (sym at ∙ ap (get_elem? s.views) (sym e) ∙ o.1)) ∙ o.2),
              ))
              (λ far'. (o.0, at' ∙ set_else s.views id (owner t) b far' ∙ o.1, o.2)))
              (cases (has t w.holding.slots));
          greatest_is = g.greatest_is;
          seats = each_two (λ j u. Owns now posted j u × Saw posted u) s.views id other b blank_view (
            (λ t. ⊎_elim
                (λ (h : has t w.holding.slots ≡ true).
                let o = (theirs.0 t).0 h in
                let not_mine : has t v.holding.slots ≡ false = ⊎_elim (λ (m : has t v.holding.slots ≡ true). absurd (ne (sym o.0 ∙ ((mine.0 t).0 m).0))) (λ (m : has t v.holding.slots ≡ false). m) (cases (has t v.holding.slots)) in (
                  (λ _. (owner_here owner w.holding.slots id t h, words_at-append t v.holding.posts w.holding.posts ∙ ap (λ l. l ++ words_at t w.holding.posts) ((mine.0 t).1 not_mine) ∙ o.1)),
                  (λ f. absurd (no_both (has t b.holding.slots) (has-append t v.holding.slots w.holding.slots ∙ ap (λ x. has t v.holding.slots || x) h ∙ or_true (has t v.holding.slots)) f)),
                ))
                (λ (h : has t w.holding.slots ≡ false).
                let same : has t b.holding.slots ≡ has t v.holding.slots = has-append t v.holding.slots w.holding.slots ∙ ap (λ x. has t v.holding.slots || x) h ∙ or_false (has t v.holding.slots) in
                let posts : words_at t b.holding.posts ≡ words_at t v.holding.posts = words_at-append t v.holding.posts w.holding.posts ∙ ap (λ l. words_at t v.holding.posts ++ l) ((theirs.0 t).1 h) ∙ append-nil (words_at t v.holding.posts) in (
                  (λ m. let o = (mine.0 t).0 (sym same ∙ m) in (owner_else owner w.holding.slots id t h ∙ o.0, posts ∙ o.1)),
                  (λ m. posts ∙ (mine.0 t).1 (sym same ∙ m)),
                ))
                (cases (has t w.holding.slots))),
            mine.1,
          )
              ((λ t. ((λ h. absurd (true≢false (sym h))), (λ h. refl))), (λ t. (tt, tt)))
              (λ j u _ far e. let o = g.seats j u e in (
                (λ t. (
                  (λ m. let q = (o.0 t).0 m in
                      let free : has t w.holding.slots ≡ false = ⊎_elim (λ (h : has t w.holding.slots ≡ true). absurd (far (sym q.0 ∙ ((theirs.0 t).0 h).0))) (λ (h : has t w.holding.slots ≡ false). h) (cases (has t w.holding.slots)) in
                      (owner_else owner w.holding.slots id t free ∙ q.0, q.1)),
                  (o.0 t).1,
                )),
                o.1,
              ));
        },
      );
    }
