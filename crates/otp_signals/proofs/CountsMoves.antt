-- Each step keeps the rule.
use Rattle.std.proofs.Common.{◌≡◌, ◌≢◌, ◌⊎◌, ⊎_elim, ℕ, zero, suc, ◌+◌, ◌<◌, List, [], ◌∷◌, ◌++◌, length, map, set, refl, sym, ap, ◌∙◌, subst, inl, inr, arith}
use Rattle.std.specs.Prelude.{slice_index}
use Rattle.std.proofs.lemmas.List.{append-nil, append_assoc, length-set, map-append}
use mathlib.Core.Option.{some, none, some-ne-none, some-injective}
use lib.ListN.{get_elem?}
use Rattle.atomic_table.specs.Table.{step, keeps, Allows, Joins, Splits, opening}
use Rattle.atomic_table.proofs.Lists.{at_set}
use Rattle.otp_signals.specs.declared.counts.view.CountsView.{CountsView}
use Rattle.otp_signals.specs.Counts.{EndsWith, IsBeginning}
use Rattle.otp_signals.specs.CountsRules.{Begins, KeepsRule, Published, Publishes, Reads, Witnesses, blank_view, first_view, lent_view, pass_view, publisher_view}
use Rattle.otp_signals.specs.Words.{counts_in}

-- what holds of each view holds after a change of one
each_set : (F : ℕ → CountsView → Type 0) (views : List CountsView) (id : ℕ) (w : CountsView) → F id w → ((j : ℕ) (u : CountsView) → j ≢ id → get_elem? views j ≡ some u → F j u) → (j : ℕ) (u : CountsView) → get_elem? (set views id w) j ≡ some u → F j u
each_set F views id w mine others j u e =
    ⊎_elim
    (λ (x : (j ≡ id) × (w ≡ u)). subst (λ (y : ℕ × CountsView). F y.0 y.1) (λ i. (sym x.0 i, x.1 i)) mine)
    (λ (x : (j ≢ id) × (get_elem? views j ≡ some u)). others j u x.0 x.1)
    (at_set views id j w u e)

at_end : (l : List CountsView) (a b : CountsView) (j : ℕ) → get_elem? (l ++ a ∷ []) j ≡ some b → (get_elem? l j ≡ some b) ⊎ ((j ≡ length l) × (a ≡ b))
at_end [] a b zero e = inr (refl, some-injective a b e)
at_end [] a b (suc j) e = absurd (some-ne-none b (sym e))
at_end (x ∷ xs) a b zero e = inl e
at_end (x ∷ xs) a b (suc j) e = ⊎_elim (λ t. inl t) (λ (t : (j ≡ length xs) × (a ≡ b)). inr (ap suc t.0, t.1)) (at_end xs a b j e)

-- the same after one is cut in two
each_cut : (F : ℕ → CountsView → Type 0) (views : List CountsView) (id : ℕ) (l r : CountsView) → F id l → F (length views) r → ((j : ℕ) (u : CountsView) → j ≢ id → get_elem? views j ≡ some u → F j u)
    → (j : ℕ) (u : CountsView) → get_elem? (set views id l ++ r ∷ []) j ≡ some u → F j u
each_cut F views id l r mine new others j u e =
    ⊎_elim
    (λ was. each_set F views id l mine others j u was)
    (λ (x : (j ≡ length (set views id l)) × (r ≡ u)). subst (λ (y : ℕ × CountsView). F y.0 y.1) (λ i. (sym (x.0 ∙ length-set views id l) i, x.1 i)) new)
    (at_end (set views id l) r u j e)

only_first : (v u : CountsView) (id : ℕ) → get_elem? (v ∷ []) id ≡ some u → (id ≡ 0) × (v ≡ u)
only_first v u zero e = (refl, some-injective v u e)
only_first v u (suc id) e = absurd (some-ne-none u (sym e))

-- what the rule says of a seat
Told : List ℕ → ℕ → CountsView → Type 0
Told all id v = Published all id v × Begins v.seen all

begins_more : (xs all : List ℕ) (k : ℕ) → Begins xs all → Begins xs (all ++ k ∷ [])
begins_more xs all k b = (b.0 ++ k ∷ [], ap (λ l. l ++ k ∷ []) b.1 ∙ append_assoc xs b.0 (k ∷ []))

-- who published something is the first seat
is_first : (all : List ℕ) (id : ℕ) (v : CountsView) → 0 < length v.published → Published all id v → (id ≡ 0) × (v.published ≡ all)
is_first all id v some_there p =
    ⊎_elim
    (λ (e : v.published ≡ []). let n = ap length e in absurd (omega arith))
    (λ (t : (id ≡ 0) × (v.published ≡ all)). t)
    p

-- the others published nothing
not_first : (all : List ℕ) (id j k : ℕ) (u : CountsView) → id ≡ 0 → j ≢ id → Published all j u → Published (all ++ k ∷ []) j u
not_first all id j k u first ne p =
    ⊎_elim
    (λ (e : u.published ≡ []). inl e)
    (λ (t : (j ≡ 0) × (u.published ≡ all)). absurd (ne (t.0 ∙ sym first)))
    p

pub opens : (word : ℕ) → KeepsRule (opening (word ∷ []) [] (first_view word))
unfolding Told
opens word = record {
  before = [];
  last = word;
  word = refl;
  seats = λ id v e. let x = only_first (first_view word) v id e in
      subst (λ (y : ℕ × CountsView). Told (word ∷ []) y.0 y.1) (λ i. (sym x.0 i, x.1 i)) (inr (refl, refl), (word ∷ [], refl));
}

pub publishes : (homes id k : ℕ) (v : CountsView) (cs : List (ℕ × ℕ)) → 0 < length v.published → Allows KeepsRule homes id (v, cs) 0 (λ _. k) (Publishes (step homes 0 k 0 none) (v, cs))
unfolding Told
publishes homes id k v cs some_there s h no_homes at small =
    let all : List ℕ = h.before ++ h.last ∷ [] in
    let w : CountsView = record v { published = v.published ++ k ∷ [] } in
    let me = h.seats id v at in
    let mine = is_first all id v some_there me.0 in (
      w,
      keeps,
      tt,
      record {
        before = all;
        last = k;
        word = ap (λ ws. set ws 0 k) h.word;
        seats = each_set (Told (all ++ k ∷ [])) s.views id w (inr (mine.0, ap (λ l. l ++ k ∷ []) mine.1), begins_more v.seen all k me.1)
            (λ j u ne e. let o = h.seats j u e in (not_first all id j k u mine.0 ne o.0, begins_more u.seen all k o.1));
      },
      refl,
    )

pub reads : (homes id : ℕ) (v : CountsView) (cs : List (ℕ × ℕ)) → Allows KeepsRule homes id (v, cs) 0 (λ n. n) (Reads (step homes 0 0 0 none) (v, cs))
unfolding Told
reads homes id v cs s h no_homes at small =
    let all : List ℕ = h.before ++ h.last ∷ [] in
    let w : CountsView = record v { seen = all; reads = v.reads + 1 } in
    let me = h.seats id v at in (
      w,
      keeps,
      tt,
      record {
        before = h.before;
        last = h.last;
        word = ap (λ ws. set ws 0 (slice_index ws 0)) h.word;
        seats = each_set (Told all) s.views id w (me.0, ([], sym (append-nil all))) (λ j u ne e. h.seats j u e);
      },
      (all, h.before, refl, me.1, ap (λ ws. h.before ++ slice_index ws 0 ∷ []) (sym h.word)),
    )

pub parts_blank : (id : ℕ) (v : CountsView) → Splits {S = ℕ} KeepsRule id v v blank_view
unfolding Told
parts_blank id v s h at =
    let all : List ℕ = h.before ++ h.last ∷ [] in record {
      before = h.before;
      last = h.last;
      word = h.word;
      seats = each_cut (Told all) s.views id v blank_view (h.seats id v at) (inl refl, (all, refl)) (λ j u ne e. h.seats j u e);
    }

pub lends : (id : ℕ) (v : CountsView) (other : ℕ) (w : CountsView) → Joins {S = ℕ} KeepsRule id v other w (lent_view v w) blank_view
unfolding Told
lends id v other w s h at ne there =
    let all : List ℕ = h.before ++ h.last ∷ [] in
    let b : CountsView = lent_view v w in
    let was : get_elem? s.views other ≡ some w = ⊎_elim (λ (t : (other ≡ id) × (b ≡ w)). absurd (ne t.0)) (λ (t : (other ≢ id) × (get_elem? s.views other ≡ some w)). t.1) (at_set s.views id other b w there) in record {
      before = h.before;
      last = h.last;
      word = h.word;
      seats = each_set (Told all) (set s.views id b) other blank_view (inl refl, (all, refl))
          (λ j u _ e. each_set (Told all) s.views id b ((h.seats id v at).0, (h.seats other w was).1) (λ i x _ a. h.seats i x a) j u e);
    }

pub witnesses : (homes id : ℕ) (v : CountsView) (cs : List (ℕ × ℕ)) → Allows KeepsRule homes id (v, cs) 0 (λ n. n) (Witnesses (step homes 0 0 0 none) (v, cs))
unfolding Told
witnesses homes id v cs s h no_homes at small =
    let all : List ℕ = h.before ++ h.last ∷ [] in
    let me = h.seats id v at in (
      v,
      keeps,
      tt,
      record {
        before = h.before;
        last = h.last;
        word = ap (λ ws. set ws 0 (slice_index ws 0)) h.word;
        seats = each_set (Told all) s.views id v me (λ j u ne e. h.seats j u e);
      },
      (
        refl,
        ⊎_elim
            (λ (e : v.published ≡ []). inl e)
            (λ (t : (id ≡ 0) × (v.published ≡ all)). inr (subst (Begins v.seen) (sym t.1) me.1))
            me.0,
      ),
    )

pub gives_back : (id : ℕ) (v : CountsView) → Splits {S = ℕ} KeepsRule id v (publisher_view v) (pass_view v)
unfolding Told
gives_back id v s h at =
    let all : List ℕ = h.before ++ h.last ∷ [] in
    let me = h.seats id v at in record {
      before = h.before;
      last = h.last;
      word = h.word;
      seats = each_cut (Told all) s.views id (publisher_view v) (pass_view v) (me.0, (all, refl)) (inl refl, me.1) (λ j u ne e. h.seats j u e);
    }

-- ---- in counts
pub begins_counts : (xs ys : List ℕ) → Begins xs ys → IsBeginning (map counts_in xs) (map counts_in ys)
begins_counts xs ys b = (map counts_in b.0, ap (map counts_in) b.1 ∙ map-append counts_in xs b.0)

pub ends_counts : (n : ℕ) (before all : List ℕ) → all ≡ before ++ n ∷ [] → EndsWith (counts_in n) (map counts_in all)
ends_counts n before all e = (map counts_in before, ap (map counts_in) e ∙ map-append counts_in before (n ∷ []))
