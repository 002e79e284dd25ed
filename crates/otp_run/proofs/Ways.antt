-- How many ways lead to each deque.
use Rattle.std.proofs.Common.{◌≡◌, ℕ, zero, suc, ◌+◌, ◌-◌, ◌<◌, ◌≤◌, List, [], ◌∷◌, ◌++◌, length, map, min, refl, sym, ap, ◌∙◌, subst, arith, Some, None}
use Rattle.std.specs.Prelude.{slice_get, IfSome}
use Rattle.otp_run.specs.Lists.{AllAt, Each}
use Rattle.otp_run.specs.Rule.{all_parts}
use Rattle.otp_run.specs.Deques.{OwnState, VictimState, index_of}
use Rattle.otp_run.specs.Schedulers.{SchedulerState, IsPlaced, numbers_from, order_of}
use Rattle.otp_run.proofs.Places.{each_at}
use Rattle.otp_run.specs.Gathers.{AreInOrder, IsAwaiting, all_ways, own_of, visits}

-- how often a number stands in a list
seen : ℕ → List ℕ → ℕ
seen k [] = 0
seen k (j ∷ js) = (1 - ((j - k) + (k - j))) + seen k js

visits-indexes : (k : ℕ) (vs : List VictimState) → visits k vs ≡ seen k (map index_of vs)
unfolding seen
visits-indexes k [] = refl
visits-indexes k (v ∷ vs) = ap (λ n. (1 - ((v.index - k) + (k - v.index))) + n) (visits-indexes k vs)

visits-append : (k : ℕ) (vs ws : List VictimState) → visits k (vs ++ ws) ≡ visits k vs + visits k ws
visits-append k [] ws = omega arith
visits-append k (v ∷ vs) ws = let p = visits-append k vs ws in omega arith

seen-append : (k : ℕ) (xs ys : List ℕ) → seen k (xs ++ ys) ≡ seen k xs + seen k ys
unfolding seen
seen-append k [] ys = omega arith
seen-append k (x ∷ xs) ys = let p = seen-append k xs ys in omega arith

seen-numbers_from : (k first count : ℕ) → seen k (numbers_from first count) ≡ min (min 1 (k + 1 - first)) (first + count - k)
unfolding seen
seen-numbers_from k first zero = omega arith
seen-numbers_from k first (suc count) = let p = seen-numbers_from k (first + 1) count in omega arith

-- one has a way to each other, and none to itself
seen-order_of : (k index count : ℕ) → k < count → index < count → seen k (order_of index count) + (1 - ((index - k) + (k - index))) ≡ 1
seen-order_of k index count inside at =
    let p = seen-numbers_from k (index + 1) (count - 1 - index) in
    let q = seen-numbers_from k 0 index in
    let r = seen-append k (numbers_from (index + 1) (count - 1 - index)) (numbers_from 0 index) in
    omega arith

-- those from one on have as many ways to the deque k as they are, but for its own scheduler
visits-all_ways : (k count first : ℕ) (ss : List SchedulerState) → k < count → first + length ss ≡ count → AllAt (λ j s. (s.own.index ≡ first + j) × (s.count ≡ count) × IsPlaced s) ss → visits k (all_ways ss) + min 1 (k + 1 - first) ≡ length ss
visits-all_ways k count first [] inside many all = omega arith
visits-all_ways k count first (s ∷ ss) inside many all =
    let at = all zero in
    let placed = at.2 in
    let less = placed.inside in
    let index = at.0 in
    let same = at.1 in
    let own : visits k s.others ≡ seen k (order_of s.own.index s.count) = visits-indexes k s.others ∙ ap (seen k) placed.ordered in
    let p = seen-order_of k s.own.index s.count (omega arith) (omega arith) in
    let q = visits-append k s.others (all_ways ss) in
    let rest = visits-all_ways k count (first + 1) ss inside (omega arith)
    (λ j. elim (slice_get ss j) as (λ o. IfSome o (λ s. (s.own.index ≡ first + suc j) × (s.count ≡ count) × IsPlaced s) → IfSome o (λ s. (s.own.index ≡ first + 1 + j) × (s.count ≡ count) × IsPlaced s))
    [ Some z ↦ (λ p. ((let e = p.0 in omega arith), p.1, p.2)) | None ↦ (λ _. tt) ] (all (suc j))) in
    omega arith

own_at : (P : ℕ → OwnState → Type 0) (ss : List SchedulerState) → AllAt (λ j s. P j s.own) ss → AllAt P (map own_of ss)
own_at P [] all j = tt
own_at P (s ∷ ss) all zero = all zero
own_at P (s ∷ ss) all (suc j) = own_at (λ i. P (suc i)) ss (λ i. all (suc i)) j

both : (ss : List SchedulerState) → AreInOrder ss → AllAt (λ index s. IsPlaced s) ss → AllAt (λ j s. (s.own.index ≡ 0 + j) × (s.count ≡ length ss) × IsPlaced s) ss
both ss all placed j = elim (slice_get ss j) as (λ o. IfSome o (λ s. (s.own.index ≡ j) × (s.count ≡ length ss)) → IfSome o (λ s. IsPlaced s) → IfSome o (λ s. (s.own.index ≡ 0 + j) × (s.count ≡ length ss) × IsPlaced s))
    [ Some z ↦ (λ p q. ((let e = p.0 in omega arith), p.1, q)) | None ↦ (λ _ _. tt) ] (all j) (placed j)

-- the parts of each deque are all here
pub all_awaiting : (ss : List SchedulerState) → AreInOrder ss → AllAt (λ index s. IsPlaced s) ss → AllAt (IsAwaiting (all_ways ss)) (map own_of ss)
all_awaiting ss all placed =
    let together : AllAt (λ j s. (s.own.index ≡ 0 + j) × (s.count ≡ length ss) × IsPlaced s) ss = both ss all placed in
    own_at (λ j o. IsAwaiting (all_ways ss) j o) ss
    (each_at (λ j s. (s.own.index ≡ 0 + j) × (s.count ≡ length ss) × IsPlaced s) (λ j s. IsAwaiting (all_ways ss) j s.own) ss together
    (λ j s within p.
    let shared = p.2.shared in
    let count = p.1 in
    let index = p.0 in
    let v = visits-all_ways j (length ss) 0 ss within (omega arith) together in
    (omega arith, omega arith)))

pub each_placed : (ss : List SchedulerState) → AllAt (λ index s. IsPlaced s) ss → Each IsPlaced ss
each_placed [] all = tt
each_placed (s ∷ ss) all = (all zero, each_placed ss (λ j. all (suc j)))

-- there are few of them, since those that are placed know how many there are
pub few_of_all : (ss : List SchedulerState) → AreInOrder ss → AllAt (λ index s. IsPlaced s) ss → length ss ≤ all_parts
few_of_all [] all placed = omega arith
few_of_all (s ∷ ss) all placed = let few = (placed zero).few in let same = (all zero).1 in omega arith

numbers_below : (count first k : ℕ) → first + k ≤ count → Each (λ j. j < count) (numbers_from first k)
numbers_below count first zero less = tt
numbers_below count first (suc k) less = (omega arith, numbers_below count (first + 1) k (omega arith))

pub each_append : {A : Type 0} (P : A → Type 0) (xs ys : List A) → Each P xs → Each P ys → Each P (xs ++ ys)
each_append P [] ys all more = more
each_append P (x ∷ xs) ys all more = (all.0, each_append P xs ys all.1 more)

each_index : (count : ℕ) (vs : List VictimState) → Each (λ j. j < count) (map index_of vs) → Each (λ (v : VictimState). v.index < count) vs
each_index count [] all = tt
each_index count (v ∷ vs) all = (all.0, each_index count vs all.1)

ways_inside : (s : SchedulerState) → IsPlaced s → Each (λ (v : VictimState). v.index < s.count) s.others
ways_inside s p =
    each_index s.count s.others (subst (Each (λ j. j < s.count)) (sym p.ordered)
    (each_append (λ j. j < s.count) (numbers_from (s.own.index + 1) (s.count - 1 - s.own.index)) (numbers_from 0 s.own.index)
    (numbers_below s.count (s.own.index + 1) (s.count - 1 - s.own.index) (let i = p.inside in omega arith)) (numbers_below s.count 0 s.own.index (let i = p.inside in omega arith))))

inside_from : (count : ℕ) (ss : List SchedulerState) → AllAt (λ j s. (s.count ≡ count) × IsPlaced s) ss → Each (λ (v : VictimState). v.index < count) (all_ways ss)
inside_from count [] all = tt
inside_from count (s ∷ ss) all =
    each_append (λ (v : VictimState). v.index < count) s.others (all_ways ss)
    (subst (λ n. Each (λ (v : VictimState). v.index < n) s.others) (all zero).0 (ways_inside s (all zero).1))
    (inside_from count ss (λ j. all (suc j)))

-- each way leads to one of the deques
pub all_inside : (ss : List SchedulerState) → AreInOrder ss → AllAt (λ index s. IsPlaced s) ss → Each (λ (v : VictimState). v.index < length ss) (all_ways ss)
all_inside ss all placed =
    inside_from (length ss) ss (each_at (λ j s. (s.own.index ≡ 0 + j) × (s.count ≡ length ss) × IsPlaced s) (λ j s. (s.count ≡ length ss) × IsPlaced s) ss (both ss all placed) (λ j s within p. (p.1, p.2)))
