-- Totals over the views, and lists that grow at the end.
use Rattle.std.proofs.Common.{◌≡◌, ◌≢◌, ◌⊎◌, ℕ, zero, suc, ◌+◌, ◌<◌, ◌≤◌, ◌==◌, Bool, true, false, true≢false, ◌||◌, ◌&&◌, cond, eq-eqb, ne_eqb, eqb-true, leb, ltb, le-leb, lt-ltb, le-ltb, List, [], ◌∷◌, ◌++◌, refl, sym, ap, ◌∙◌, inl, inr, arith, ⊎_elim, subst, lt_of_not-le}
use Rattle.std.specs.Prelude.{sum_by, max, filter, not}
use Rattle.std.proofs.lemmas.Bool.Decides.{nat_tests}
use Rattle.std.proofs.lemmas.List.Sums.{sum_by-append, sum_by-cons}
use Rattle.std.proofs.lemmas.Bool.{lt-leb}
use Rattle.otp_signals.specs.declared.view.SignalsView.{SignalsView}
use Rattle.otp_signals.specs.Rules.{all_drawn}
use Rattle.otp_signals.specs.Lists.{Below, Above, Rises, AtLeast, NeverFalls, Stands, ZeroOrIn, greatest, has, words_at, between, slots_below}
use mathlib.Core.Logic.{dite}
use native.Mathlib.Decide.{ℕ_discrete, dec_le}

-- all numbers drawn, weighed, are the weights of each view's
pub weigh_all : (h : ℕ → ℕ) (vs : List SignalsView) → sum_by h (all_drawn vs) ≡ sum_by (λ (v : SignalsView). sum_by h v.holding.drawn) vs
weigh_all h [] = refl
weigh_all h (v ∷ vs) = sum_by-append h v.holding.drawn (all_drawn vs) ∙ ap (λ n. sum_by h v.holding.drawn + n) (weigh_all h vs) ∙ sym (sum_by-cons (λ (u : SignalsView). sum_by h u.holding.drawn) v vs)

pub Below-more : (m n : ℕ) → m ≤ n → (xs : List ℕ) → Below m xs → Below n xs
Below-more m n le [] b = tt
Below-more m n le (x ∷ xs) b = (omega (arith, b.0), Below-more m n le xs b.1)

pub Below-push : (n : ℕ) (xs : List ℕ) (y : ℕ) → Below n xs → y < n → Below n (xs ++ y ∷ [])
Below-push n [] y b lt = (lt, tt)
Below-push n (x ∷ xs) y b lt = (b.0, Below-push n xs y b.1 lt)

Above-push : (n : ℕ) (xs : List ℕ) (y : ℕ) → Above n xs → n < y → Above n (xs ++ y ∷ [])
Above-push n [] y b lt = (lt, tt)
Above-push n (x ∷ xs) y b lt = (b.0, Above-push n xs y b.1 lt)

pub Rises-push : (xs : List ℕ) (y : ℕ) → Rises xs → Below y xs → Rises (xs ++ y ∷ [])
Rises-push [] y r b = (tt, tt)
Rises-push (x ∷ xs) y r b = (Above-push x xs y r.0 b.0, Rises-push xs y r.1 b.1)

pub words_at-push_here : (s : ℕ) (ps : List (ℕ × ℕ)) (slot k : ℕ) → slot ≡ s → words_at s (ps ++ (slot, k) ∷ []) ≡ words_at s ps ++ k ∷ []
words_at-push_here s [] slot k e = ap (λ b. cond b (k ∷ []) []) (eq-eqb slot s e)
words_at-push_here s (p ∷ ps) slot k e =
    elim (p.0 == s) as (λ b. cond b (p.1 ∷ words_at s (ps ++ (slot, k) ∷ [])) (words_at s (ps ++ (slot, k) ∷ [])) ≡ cond b (p.1 ∷ words_at s ps) (words_at s ps) ++ k ∷ []) [
      | true ↦ ap (λ l. p.1 ∷ l) (words_at-push_here s ps slot k e)
      | false ↦ words_at-push_here s ps slot k e
    ]

pub words_at-push_else : (s : ℕ) (ps : List (ℕ × ℕ)) (slot k : ℕ) → slot ≢ s → words_at s (ps ++ (slot, k) ∷ []) ≡ words_at s ps
words_at-push_else s [] slot k ne = ap (λ b. cond b (k ∷ []) []) (ne_eqb slot s ne)
words_at-push_else s (p ∷ ps) slot k ne =
    elim (p.0 == s) as (λ b. cond b (p.1 ∷ words_at s (ps ++ (slot, k) ∷ [])) (words_at s (ps ++ (slot, k) ∷ [])) ≡ cond b (p.1 ∷ words_at s ps) (words_at s ps)) [
      | true ↦ ap (λ l. p.1 ∷ l) (words_at-push_else s ps slot k ne)
      | false ↦ words_at-push_else s ps slot k ne
    ]

pub greatest-push : (xs : List ℕ) (k : ℕ) → greatest (xs ++ k ∷ []) ≡ max (greatest xs) k
greatest-push [] k = omega arith
greatest-push (x ∷ xs) k = let p = greatest-push xs k in omega arith

pub Stands-more : (x k : ℕ) (ys : List ℕ) → Stands x ys → Stands x (ys ++ k ∷ [])
Stands-more x k [] s = absurd s
Stands-more x k (y ∷ ys) s = ⊎_elim (λ (e : x ≡ y). inl e) (λ (r : Stands x ys). inr (Stands-more x k ys r)) s

pub ZeroOrIn-more : (ys : List ℕ) (k : ℕ) (xs : List ℕ) → ZeroOrIn ys xs → ZeroOrIn (ys ++ k ∷ []) xs
ZeroOrIn-more ys k [] z = tt
ZeroOrIn-more ys k (x ∷ xs) z = (⊎_elim (λ (e : x ≡ 0). inl e) (λ (r : Stands x ys). inr (Stands-more x k ys r)) z.0, ZeroOrIn-more ys k xs z.1)

Stands-le : (x : ℕ) (ys : List ℕ) → Stands x ys → x ≤ greatest ys
Stands-le x [] s = absurd s
Stands-le x (y ∷ ys) s = ⊎_elim (λ (e : x ≡ y). omega arith) (λ (r : Stands x ys). let p = Stands-le x ys r in omega arith) s

greatest-stands : (ys : List ℕ) → (greatest ys ≡ 0) ⊎ Stands (greatest ys) ys
greatest-stands [] = inl refl
greatest-stands (y ∷ ys) =
    dite (dec_le (greatest ys) y)
    (λ (le : greatest ys ≤ y). let m : max y (greatest ys) ≡ y = omega arith in inr (inl m))
    (λ gt. let lt : y < greatest ys = lt_of_not-le gt in let m : max y (greatest ys) ≡ greatest ys = omega arith in
    ⊎_elim (λ (e : greatest ys ≡ 0). inl (m ∙ e)) (λ (r : Stands (greatest ys) ys). inr (inr (subst (λ n. Stands n ys) (sym m) r))) (greatest-stands ys))

AtLeast-push : (n y : ℕ) (xs : List ℕ) → AtLeast n xs → n ≤ y → AtLeast n (xs ++ y ∷ [])
AtLeast-push n y [] a le = (le, tt)
AtLeast-push n y (x ∷ xs) a le = (a.0, AtLeast-push n y xs a.1 le)

-- the greatest that was posted may be looked at
pub look-push : (ys xs : List ℕ) → NeverFalls xs → ZeroOrIn ys xs → NeverFalls (xs ++ greatest ys ∷ []) × ZeroOrIn ys (xs ++ greatest ys ∷ [])
look-push ys [] s z = ((tt, tt), (greatest-stands ys, tt))
look-push ys (x ∷ xs) s z =
    let r = look-push ys xs s.1 z.1 in
    let le : x ≤ greatest ys = ⊎_elim (λ (e : x ≡ 0). omega arith) (λ (h : Stands x ys). Stands-le x ys h) z.0 in
    ((AtLeast-push x (greatest ys) xs s.0 le, r.0), (z.0, r.1))

pub Stands-below : (n x : ℕ) (ys : List ℕ) → Below n ys → Stands x ys → x < n
Stands-below n x [] b s = absurd s
Stands-below n x (y ∷ ys) b s = ⊎_elim (λ (e : x ≡ y). let p = b.0 in omega arith) (λ (r : Stands x ys). Stands-below n x ys b.1 r) s

pub has-push : (s : ℕ) (xs : List ℕ) (y : ℕ) → has s (xs ++ y ∷ []) ≡ (has s xs || (s == y))
has-push s [] y = elim (s == y) as (λ b. (b || false) ≡ b) [ true ↦ refl | false ↦ refl ]
has-push s (x ∷ xs) y = elim (s == x) as (λ b. (b || has s (xs ++ y ∷ [])) ≡ ((b || has s xs) || (s == y))) [ true ↦ refl | false ↦ has-push s xs y ]

pub has-slots_below : (n s : ℕ) → s < n → has s (slots_below n) ≡ true
has-slots_below zero s lt = absurd (omega arith)
has-slots_below (suc n) s lt =
    has-push s (slots_below n) n ∙ dite (ℕ_discrete s n)
    (λ (e : s ≡ n). ap (λ b. has s (slots_below n) || b) (eq-eqb s n e) ∙ or_true (has s (slots_below n)))
    (λ ne. ap (λ b. b || (s == n)) (has-slots_below n s (omega arith)))
  where
    or_true : (b : Bool) → (b || true) ≡ true
    or_true true = refl
    or_true false = refl

pub has-below : (n s : ℕ) → has s (slots_below n) ≡ true → s < n
has-below zero s h = absurd (true≢false (sym h))
has-below (suc n) s h =
    dite (ℕ_discrete s n)
    (λ (e : s ≡ n). omega arith)
    (λ ne. let p = has-below n s (or_false (has s (slots_below n)) ∙ ap (λ b. has s (slots_below n) || b) (sym (ne_eqb s n ne)) ∙ sym (has-push s (slots_below n) n) ∙ h) in omega arith)
  where
    or_false : (b : Bool) → b ≡ (b || false)
    or_false true = refl
    or_false false = refl

pub and_false : (b : Bool) → (b && false) ≡ false
and_false true = refl
and_false false = refl

pub and_true : (b : Bool) → (b && true) ≡ b
and_true true = refl
and_true false = refl

filter_here : (a b c h q : Bool) → (a ≡ true → c ≡ b) → h ≡ (q && c) → cond b (a || h) h ≡ ((a || q) && c)
filter_here true true c h q same e = sym (same refl)
filter_here true false c h q same e = e ∙ ap (λ t. q && t) (same refl) ∙ and_false q ∙ sym (same refl)
filter_here false true c h q same e = e
filter_here false false c h q same e = e

cond_has : (b : Bool) (s x : ℕ) (xs : List ℕ) → has s (cond b (x ∷ xs) xs) ≡ cond b ((s == x) || has s xs) (has s xs)
cond_has true s x xs = refl
cond_has false s x xs = refl

pub has-filter : (p : ℕ → Bool) (s : ℕ) (xs : List ℕ) → has s (filter p xs) ≡ (has s xs && p s)
has-filter p s [] = refl
has-filter p s (x ∷ xs) = cond_has (p x) s x (filter p xs) ∙ filter_here (s == x) (p x) (p s) (has s (filter p xs)) (has s xs) (λ e. ap p (eqb-true s x e)) (has-filter p s xs)

pub between-from : (from to s : ℕ) → between from to s ≡ true → from ≤ s
between-from from to s b = grind (arith, nat_tests)

pub between-to : (from to s : ℕ) → between from to s ≡ true → s < to
between-to from to s b = grind (arith, nat_tests)

-- what is kept of an owner and what is cut off have slots that it had
pub and-left : (a b : Bool) → (a && b) ≡ true → a ≡ true
and-left true b e = refl
and-left false b e = e

between-true : (from to s : ℕ) → from ≤ s → s < to → between from to s ≡ true
between-true from to s a b = ap (λ t. t && ltb s to) (le-leb from s a) ∙ lt-ltb s to b

between-below : (from to s : ℕ) → s < from → between from to s ≡ false
between-below from to s a = ap (λ t. t && ltb s to) (lt-leb from s a)

between-above : (from to s : ℕ) → to ≤ s → between from to s ≡ false
between-above from to s a = ap (λ t. leb from s && t) (le-ltb s to a) ∙ and_false (leb from s)

pub has-cut : (from to s : ℕ) (slots : List ℕ) → from ≤ s → s < to → has s slots ≡ true → has s (filter (between from to) slots) ≡ true
has-cut from to s slots a b h = has-filter (between from to) s slots ∙ ap (λ t. has s slots && t) (between-true from to s a b) ∙ and_true (has s slots) ∙ h

pub has-kept_above : (from to s : ℕ) (slots : List ℕ) → to ≤ s → has s slots ≡ true → has s (filter (λ t. not (between from to t)) slots) ≡ true
has-kept_above from to s slots a h = has-filter (λ t. not (between from to t)) s slots ∙ ap (λ t. has s slots && not t) (between-above from to s a) ∙ and_true (has s slots) ∙ h

pub has-kept_below : (from to s : ℕ) (slots : List ℕ) → s < from → has s slots ≡ true → has s (filter (λ t. not (between from to t)) slots) ≡ true
has-kept_below from to s slots a h = has-filter (λ t. not (between from to t)) s slots ∙ ap (λ t. has s slots && not t) (between-below from to s a) ∙ and_true (has s slots) ∙ h
