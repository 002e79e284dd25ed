-- An owner may hold what a viewer saw, learns what the signal rule says of it, and gives it back.
use Rattle.std.proofs.Common.{◌≡◌, ◌≢◌, ◌⊎◌, ⊎_elim, ℕ, suc, ◌==◌, true, false, true≢false, cond, eq-eqb, eqb-true, List, [], ◌∷◌, ◌++◌, length, set, refl, sym, ap, ◌∙◌, subst, inl, inr, arith, add-zero}
use Rattle.std.specs.Prelude.{sum_by, slice_index, Contains}
use Rattle.std.proofs.lemmas.List.Elements.{All-nil, All-cons, All-contains, Contains-push}
use mathlib.Core.Option.{some, none}
use lib.ListN.{get_elem?}
use Rattle.atomic_table.specs.Table.{step, keeps, Allows, Splits, Joins}
use Rattle.atomic_table.proofs.Lists.{at_set, at_longer}
use Rattle.otp_signals.specs.declared.view.Holding.{Holding}
use Rattle.otp_signals.specs.declared.view.SignalsView.{SignalsView}
use Rattle.otp_signals.specs.Lists.{Below, Rises, ZeroOrIn, Stands, has, words_at}
use Rattle.otp_signals.specs.Holdings.{no_holding}
use Rattle.otp_signals.specs.declared.signal.Signal.{Signal}
use Rattle.otp_signals.specs.declared.signal.Signal.TheVariants.{None, Shutdown, Kill}
use Rattle.otp_signals.specs.Signals.{word_of, signal_of, WerePosted, SignalsWerePosted}
use Rattle.otp_signals.specs.Rules.{blank_view, lent_view, unlent_view, looks_view, Owns, Saw, KeepsRules, Witnesses}
use Rattle.otp_tally.proofs.Sums.{sum_by-set}
use Rattle.otp_signals.proofs.Sums.{weigh_all}
use Rattle.otp_signals.proofs.Moves.{owned_set, each_cut, cut_numbers, loaded}
use Rattle.otp_signals.proofs.Joins.{each_two}
use Rattle.otp_signals.proofs.Membership.{has-Contains}

owns_nothing : (owner : ℕ → ℕ) (posted : ℕ → List ℕ) (id : ℕ) (v : SignalsView) → v.holding ≡ no_holding → Owns owner posted id v
owns_nothing owner posted id v is =
    let F : Holding → Type 0 = λ h. (slot : ℕ) → (has slot h.slots ≡ true → (owner slot ≡ id) × (words_at slot h.posts ≡ posted slot)) × (has slot h.slots ≡ false → words_at slot h.posts ≡ []) in
    subst F (sym is) (λ slot. ((λ h. absurd (true≢false (sym h))), (λ h. refl)))

pub lends : (slots id : ℕ) (v : SignalsView) (other : ℕ) (w : SignalsView) → w.holding ≡ no_holding → Joins {S = ℕ} (KeepsRules slots) id v other w (lent_view v w) blank_view
lends slots id v other w bare s k at ne there =
    let b : SignalsView = lent_view v w in
    let was : get_elem? s.views other ≡ some w = ⊎_elim (λ (t : (other ≡ id) × (b ≡ w)). absurd (ne t.0)) (λ (t : (other ≢ id) × (get_elem? s.views other ≡ some w)). t.1) (at_set s.views id other b w there) in
    let n = k.numbers in
    let sig = k.signals in
    let g = sig.2 in
    let c : ℕ = slice_index s.words 0 in record {
      words = k.words;
      numbers = record {
        begins = n.begins;
        once = λ h.
            let f : SignalsView → ℕ = λ u. sum_by h u.holding.drawn in
            let x = sum_by-set f s.views id v b at in
            let y = sum_by-set f (set s.views id b) other w blank_view there in
            let p = weigh_all h s.views in
            let q = weigh_all h (set (set s.views id b) other blank_view) in
            let o = n.once h in
            let z : sum_by h w.holding.drawn ≡ 0 = ap (λ (e : Holding). sum_by h e.drawn) bare in
            omega arith;
        rises = each_two (λ j u. Rises u.holding.drawn × Below c u.holding.drawn) s.views id other b blank_view (n.rises id v at) (tt, tt) (λ j u _ _ e. n.rises j u e);
        room =
            let f : SignalsView → ℕ = λ u. u.holding.quota in
            let x = sum_by-set f s.views id v b at in
            let y = sum_by-set f (set s.views id b) other w blank_view there in
            let o = n.room in
            let z : w.holding.quota ≡ 0 = ap (λ (e : Holding). e.quota) bare in
            omega arith;
      };
      signals = (
        sig.0,
        sig.1,
        record {
          owned = λ t lt. owned_set (set s.views id b) other w blank_view there (ap (λ (e : Holding). e.slots) (sym bare)) t (sig.0 t) (owned_set s.views id v b at refl t (sig.0 t) (g.owned t lt));
          greatest_is = g.greatest_is;
          seats = each_two (λ j u. Owns sig.0 sig.1 j u × Saw sig.1 u) s.views id other b blank_view
              ((g.seats id v at).0, (g.seats other w was).1)
              (owns_nothing sig.0 sig.1 other blank_view refl, (λ t. (tt, tt)))
              (λ j u _ _ e. g.seats j u e);
        },
      );
    }

pub witnesses : (slots homes id : ℕ) (v : SignalsView) (cs : List (ℕ × ℕ)) → Allows (KeepsRules slots) homes id (v, cs) 0 (λ n. n) (Witnesses (step homes 0 0 0 none) (v, cs))
witnesses slots homes id v cs s k no_homes at small =
    let me = k.signals.2.seats id v at in
    (v, keeps, tt, loaded slots id v s k at, (refl, (λ slot mine. let saw = me.1 slot in (saw.0, subst (λ l. ZeroOrIn l (words_at slot v.looks)) (sym ((me.0 slot).0 mine).1) saw.1))))

pub gives_back : (slots id : ℕ) (v : SignalsView) → Splits {S = ℕ} (KeepsRules slots) id v (unlent_view v) (looks_view v)
gives_back slots id v s k at =
    let sig = k.signals in
    let g = sig.2 in
    let l : SignalsView = unlent_view v in
    let r : SignalsView = looks_view v in
    let mine = g.seats id v at in record {
      words = k.words;
      numbers = cut_numbers s.views id (slice_index s.words 0) v l r at refl refl (add-zero v.holding.quota) k.numbers;
      signals = (
        sig.0,
        sig.1,
        record {
          owned = λ t lt. let o = owned_set s.views id v l at refl t (sig.0 t) (g.owned t lt) in (o.0, at_longer (set s.views id l) (r ∷ []) _ o.0 o.1, o.2);
          greatest_is = g.greatest_is;
          seats = each_cut (λ j u. Owns sig.0 sig.1 j u × Saw sig.1 u) s.views id l r (mine.0, (λ t. (tt, tt))) (owns_nothing sig.0 sig.1 (length s.views) r refl, mine.1) (λ j u ne e. g.seats j u e);
        },
      );
    }

-- ---- in the library's words
there : (x : ℕ × ℕ) (p : ℕ × ℕ) (ps : List (ℕ × ℕ)) → Contains ps x → Contains (p ∷ ps) x
there x p ps c = (suc c.0, (let lt = c.1 in omega arith), c.2)

posted_there : (slot x : ℕ) (ps : List (ℕ × ℕ)) → Stands x (words_at slot ps) → Contains ps (slot, x)
posted_there slot x [] s = absurd s
posted_there slot x (p ∷ ps) s =
    (elim (p.0 == slot) as (λ b. (p.0 == slot) ≡ b → Stands x (cond b (p.1 ∷ words_at slot ps) (words_at slot ps)) → Contains (p ∷ ps) (slot, x)) [
      | true ↦ λ e t. ⊎_elim
          (λ (is : x ≡ p.1). (0, omega arith, λ i. (eqb-true p.0 slot e i, sym is i)))
          (λ (r : Stands x (words_at slot ps)). there (slot, x) p ps (posted_there slot x ps r))
          t
      | false ↦ λ e t. there (slot, x) p ps (posted_there slot x ps t)
    ]) refl s

here : (slot x : ℕ) (ps : List (ℕ × ℕ)) → words_at slot ((slot, x) ∷ ps) ≡ x ∷ words_at slot ps
here slot x ps = ap (λ b. cond b (x ∷ words_at slot ps) (words_at slot ps)) (eq-eqb slot slot refl)

later : (slot : ℕ) (p : ℕ × ℕ) (ps : List (ℕ × ℕ)) (xs : List ℕ) → ZeroOrIn xs (words_at slot (p ∷ ps)) → ZeroOrIn xs (words_at slot ps)
later slot p ps xs z =
    (elim (p.0 == slot) as (λ b. ZeroOrIn xs (cond b (p.1 ∷ words_at slot ps) (words_at slot ps)) → ZeroOrIn xs (words_at slot ps)) [
      | true ↦ λ t. t.1
      | false ↦ λ t. t
    ]) z

pub were_posted : (h : Holding) (looks : List (ℕ × ℕ)) → ((slot : ℕ) → has slot h.slots ≡ true → ZeroOrIn (words_at slot h.posts) (words_at slot looks)) → WerePosted h.slots h.posts looks
were_posted h [] z = All-nil _
were_posted h (p ∷ ps) z =
    All-cons (λ (look : ℕ × ℕ). Contains h.slots look.0 → (look.1 ≡ 0) ⊎ Contains h.posts look) p ps
    (λ mine.
    let t = subst (ZeroOrIn (words_at p.0 h.posts)) (here p.0 p.1 ps) (z p.0 (has-Contains p.0 h.slots mine)) in
    ⊎_elim (λ (e : p.1 ≡ 0). inl e) (λ (s : Stands p.1 (words_at p.0 h.posts)). inr (posted_there p.0 p.1 h.posts s)) t.0)
    (were_posted h ps (λ slot mine. later slot p ps (words_at slot h.posts) (z slot mine)))

-- the signal that a word is for a number has that word
is_its_word : (word number : ℕ) → (signal_of word number ≡ None) ⊎ (word ≡ word_of number (signal_of word number))
is_its_word word number =
    (elim (word == word_of number Shutdown) as (λ b. (word == word_of number Shutdown) ≡ b → (cond b Shutdown (cond (word == word_of number Kill) Kill None) ≡ None) ⊎ (word ≡ word_of number (cond b Shutdown (cond (word == word_of number Kill) Kill None)))) [
      | true ↦ λ e. inr (eqb-true word (word_of number Shutdown) e)
      | false ↦ λ _. (elim (word == word_of number Kill) as (λ b. (word == word_of number Kill) ≡ b → (cond b Kill None ≡ None) ⊎ (word ≡ word_of number (cond b Kill None))) [
        | true ↦ λ e. inr (eqb-true word (word_of number Kill) e)
        | false ↦ λ _. inl refl
      ]) refl
    ]) refl

pub seen_word : (old new : List (ℕ × ℕ)) (slot number word : ℕ) (answer : Signal) → new ≡ old ++ (slot, word) ∷ [] → answer ≡ signal_of word number → (answer ≡ None) ⊎ Contains new (slot, word_of number answer)
seen_word old new slot number word answer seen answered =
    ⊎_elim
    (λ (e : signal_of word number ≡ None). inl (answered ∙ e))
    (λ (e : word ≡ word_of number (signal_of word number)). inr (subst (λ (x : List (ℕ × ℕ) × ℕ). Contains x.0 (slot, x.1)) (λ i. (sym seen i, (e ∙ ap (word_of number) (sym answered)) i)) (Contains-push old (slot, word))))
    (is_its_word word number)

zero_is_none : (number : ℕ) (answer : Signal) → word_of number answer ≡ 0 → answer ≡ None
zero_is_none number None e = refl
zero_is_none number Shutdown e = absurd (omega arith)
zero_is_none number Kill e = absurd (omega arith)

-- a signal that was seen for a number was posted for it
pub signals_were_posted : (slots : List ℕ) (posts looks : List (ℕ × ℕ)) → WerePosted slots posts looks → SignalsWerePosted slots posts looks
signals_were_posted slots posts looks were slot number signal mine seen =
    ⊎_elim
    (λ (z : word_of number signal ≡ 0). inl (zero_is_none number signal z))
    (λ (t : Contains posts (slot, word_of number signal)). inr t)
    (All-contains (λ (look : ℕ × ℕ). Contains slots look.0 → (look.1 ≡ 0) ⊎ Contains posts look) looks (slot, word_of number signal) were seen mine)
