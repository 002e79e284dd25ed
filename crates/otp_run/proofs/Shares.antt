-- The parts of the deques are shared out, a way at a time.
use Rattle.std.proofs.Common.{◌≡◌, ℕ, suc, ◌+◌, ◌-◌, ◌<◌, ◌≤◌, List, [], ◌∷◌, ◌++◌, length, set, get_or, map, min, refl, sym, ap, ◌∙◌, subst, arith, append_assoc}
use Rattle.otp_run.specs.Lists.{AllAt}
use Rattle.otp_run.specs.Schedulers.{numbers_from}
use Rattle.otp_run.specs.Rule.{all_parts}
use Rattle.otp_run.specs.Deques.{OwnState, VictimState, fresh_victim, index_of}
use Rattle.otp_run.specs.Schedulers.{SchedulerState, IsPlaced, IsScheduler, order_of}
use Rattle.otp_run.specs.Opens.{HasLent, unused, opened, none_yet, from_all, CompleteUpTo}
use Rattle.otp_run.proofs.Places.{set_at, get_at, each_at, numbers-push, map-append}

abbrev lowered : SchedulerState → SchedulerState
lowered s = record s { own = record s.own { parts = s.own.parts - 1 } }

module _ (count thief index : ℕ) (ss : List SchedulerState) (v w : SchedulerState) (within : index < length ss) (is : v ≡ get_or ss index v) where
  one_is : (lent : ℕ → ℕ) → AllAt (HasLent count thief lent) ss → HasLent count thief lent index v
  one_is lent all = subst (HasLent count thief lent index) (sym is) (get_at (HasLent count thief lent) ss index v all within)

  -- one more of them lends a part
  pub lent_more : (lent lent' : ℕ → ℕ) → w ≡ record v { own = record v.own { parts = v.own.parts - 1 } } → thief + lent index < all_parts + min 1 (thief - index) → lent' index ≡ lent index + 1 → ((j : ℕ) → ¬ (j ≡ index) → lent' j ≡ lent j)
      → AllAt (HasLent count thief lent) ss → AllAt (HasLent count thief lent') (set ss index w)
  lent_more lent lent' now enough more others all =
      let h = one_is lent all in
      set_at (HasLent count thief lent) (HasLent count thief lent') ss index w all
      (λ j x apart p. record { parts = p.parts; others = p.others; is = p.is; left = (let l = p.left in let e = others j apart in omega arith); ways = p.ways })
      (record { parts = h.parts - 1; others = h.others; is = now ∙ ap lowered h.is; left = (let l = h.left in omega arith); ways = h.ways })

  -- a thief has done nothing
  pub one_unused : (lent : ℕ → ℕ) → AllAt (HasLent count thief lent) ss → v ≡ unused v.own.index v.own.parts v.others
  one_unused lent all =
      let h = one_is lent all in
      h.is ∙ ap (λ s. unused s.own.index s.own.parts s.others) (sym h.is)

  -- it has a part to spare
  pub one_spare : (lent : ℕ → ℕ) → thief + lent index + 1 < all_parts + min 1 (thief - index) → AllAt (HasLent count thief lent) ss → 1 < v.own.parts
  one_spare lent enough all =
      let h = one_is lent all in
      let l = h.left in
      let parts : v.own.parts ≡ h.parts = ap (λ s. s.own.parts) h.is in
      omega arith

  -- its index is its place
  pub one_index : (lent : ℕ → ℕ) → AllAt (HasLent count thief lent) ss → v.own.index ≡ index
  one_index lent all = ap (λ s. s.own.index) (one_is lent all).is

  -- the thief has all its ways
  pub equipped : (ways : List VictimState) → index ≡ thief → w ≡ record v { others = ways } → ways ≡ map fresh_victim (order_of thief count) → AllAt (HasLent count thief (from_all thief)) ss → AllAt (HasLent count (thief + 1) none_yet) (set ss index w)
  equipped ways at now all_ways all =
      let h = one_is (from_all thief) all in
      set_at (HasLent count thief (from_all thief)) (HasLent count (thief + 1) none_yet) ss index w all
      (λ j x apart p. record { parts = p.parts; others = p.others; is = p.is; left = (let l = p.left in omega arith); ways = λ less. p.ways (omega arith) })
      (record {
        parts = h.parts;
        others = ways;
        is = now ∙ ap (λ (s : SchedulerState). record s { others = ways }) h.is;
        left = (let l = h.left in omega arith);
        ways = λ less. all_ways ∙ ap (λ k. map fresh_victim (order_of k count)) (sym at);
      })

indexes-fresh : (ks : List ℕ) → map index_of (map fresh_victim ks) ≡ ks
indexes-fresh [] = refl
indexes-fresh (k ∷ ks) = ap (λ l. k ∷ l) (indexes-fresh ks)

pub ways_more : (first k more index : ℕ) (old ways now : List VictimState) (x : VictimState) → ways ≡ old ++ map fresh_victim (numbers_from first k) → now ≡ ways ++ x ∷ [] → x ≡ fresh_victim index → first + k ≡ index → more ≡ k + 1
    → now ≡ old ++ map fresh_victim (numbers_from first more)
ways_more first k more index old ways now x so_far pushed is at one_more =
    let last : x ≡ fresh_victim (first + k) = is ∙ ap fresh_victim (sym at) in
    let n : more ≡ suc k = omega arith in
    pushed ∙ ap (λ (l : List VictimState). l ++ x ∷ []) so_far ∙ append_assoc old (map fresh_victim (numbers_from first k)) (x ∷ [])
    ∙ ap (λ (y : VictimState). old ++ (map fresh_victim (numbers_from first k) ++ y ∷ [])) last
    ∙ ap (λ l. old ++ l) (sym (map-append fresh_victim (numbers_from first k) ((first + k) ∷ [])) ∙ ap (map fresh_victim) (sym (numbers-push first k)))
    ∙ ap (λ m. old ++ map fresh_victim (numbers_from first m)) (sym n)

-- all ways of one thief
pub both_ways : (thief count : ℕ) (none above ways : List VictimState) → none ≡ [] → above ≡ none ++ map fresh_victim (numbers_from (thief + 1) (count - 1 - thief)) → ways ≡ above ++ map fresh_victim (numbers_from 0 thief)
    → ways ≡ map fresh_victim (order_of thief count)
both_ways thief count none above ways nothing first last =
    last ∙ ap (λ l. l ++ map fresh_victim (numbers_from 0 thief)) (first ∙ ap (λ l. l ++ map fresh_victim (numbers_from (thief + 1) (count - 1 - thief))) nothing)
    ∙ sym (map-append fresh_victim (numbers_from (thief + 1) (count - 1 - thief)) (numbers_from 0 thief))

pub nobody_lent : (count : ℕ) (ss : List SchedulerState) → AllAt (λ k s. s ≡ unused k all_parts []) ss → AllAt (HasLent count 0 none_yet) ss
nobody_lent count ss all =
    each_at (λ k s. s ≡ unused k all_parts []) (HasLent count 0 none_yet) ss all
    (λ j x within p. record { parts = all_parts; others = []; is = p; left = omega arith; ways = λ less. absurd (omega arith) })

-- one that has all its ways and lent all its parts
pub is_placed : (count index : ℕ) (v : SchedulerState) → index < count → count ≤ all_parts → HasLent count count none_yet index v → IsPlaced (record v { count = count })
is_placed count index v within few h =
    let at : v.own.index ≡ index = ap (λ s. s.own.index) h.is in
    let parts : v.own.parts ≡ h.parts = ap (λ s. s.own.parts) h.is in
    let l = h.left in
    record {
      few = few;
      inside = omega arith;
      shared = omega arith;
      ordered = ap (λ s. map index_of s.others) h.is ∙ ap (map index_of) (h.ways within) ∙ indexes-fresh (order_of index count) ∙ ap (λ k. order_of k count) (sym at);
    }

pub one_complete : (count index : ℕ) (v w : SchedulerState) → index < count → count ≤ all_parts → HasLent count count none_yet index v → w ≡ record v { count = count } → w ≡ opened count index
one_complete count index v w within few h now =
    let l = h.left in
    let n : h.parts ≡ all_parts + 1 - count = omega arith in
    now ∙ ap (λ (s : SchedulerState). record s { count = count }) (h.is ∙ ap (λ (z : ℕ × List VictimState). unused index z.0 z.1) (λ i. (n i, h.ways within i)))

pub completed_more : (count index : ℕ) (ss : List SchedulerState) (w : SchedulerState) → w ≡ opened count index → AllAt (CompleteUpTo count index) ss → AllAt (CompleteUpTo count (index + 1)) (set ss index w)
completed_more count index ss w is all =
    set_at (CompleteUpTo count index) (CompleteUpTo count (index + 1)) ss index w all
    (λ j x apart p. ((λ less. p.0 (omega arith)), (λ more. p.1 (omega arith))))
    ((λ less. is), (λ more. absurd (omega arith)))

pub lent_by_then : (count thief : ℕ) (lent lent' : ℕ → ℕ) (ss : List SchedulerState) → ((j : ℕ) → j < length ss → lent' j ≡ lent j) → AllAt (HasLent count thief lent) ss → AllAt (HasLent count thief lent') ss
lent_by_then count thief lent lent' ss same all =
    each_at (HasLent count thief lent) (HasLent count thief lent') ss all
    (λ j x within p. record { parts = p.parts; others = p.others; is = p.is; left = (let l = p.left in let e = same j within in omega arith); ways = p.ways })

-- the next that is to be told how many there are
module _ (count index : ℕ) (ss : List SchedulerState) (v : SchedulerState) (within : index < length ss) (is : v ≡ get_or ss index v) (all : AllAt (CompleteUpTo count index) ss) where
  pub next_lent : HasLent count count none_yet index v
  next_lent = (subst (CompleteUpTo count index index) (sym is) (get_at (CompleteUpTo count index) ss index v all within)).1 (omega arith)

  pub next_unused : v ≡ unused v.own.index v.own.parts v.others
  next_unused =
      let h = next_lent in
      h.is ∙ ap (λ s. unused s.own.index s.own.parts s.others) (sym h.is)

-- lending keeps the ledger of one that has no ways yet
pub lending_keeps : (s now : SchedulerState) (own : OwnState) → IsScheduler s → s ≡ now → now ≡ unused now.own.index now.own.parts now.others → own ≡ record s.own { parts = s.own.parts - 1 } → IsScheduler (record s { own = own })
lending_keeps s now own l is unused_now lent =
    let none : s.count ≡ 0 = ap (λ z. z.count) is ∙ ap (λ z. z.count) unused_now in
    subst (λ (o : OwnState). IsScheduler (record s { own = o })) (sym lent) (record {
      placed = λ some. absurd (omega arith);
      begun_is_put = l.begun_is_put;
      found_first = l.found_first;
      begun_bounded = l.begun_bounded;
      ended_bounded = l.ended_bounded;
    })
