-- A run queue is taken apart, a scheduler, a way and a deque at a time.
use Rattle.std.proofs.Common.{◌≡◌, ℕ, zero, suc, ◌+◌, ◌-◌, ◌<◌, ◌≤◌, List, [], ◌∷◌, ◌++◌, length, set, get_or, map, refl, sym, ap, ◌∙◌, subst, arith, append_assoc, length-append}
use Rattle.std.specs.Prelude.{sum_by}
use Rattle.std.proofs.lemmas.List.{append-nil, length-map, length-set, set-get_or}
use Rattle.std.proofs.lemmas.List.Sums.{sum_by-append, sum_by-cons, sum_by-set}
use Rattle.otp_job.specs.declared.process.Ticket.{Ticket}
use Rattle.otp_job.specs.Processes.{ProcessState}
use Rattle.otp_run.specs.Lists.{AllAt, Each}
use Rattle.otp_run.specs.Rule.{all_parts, ticket_of}
use Rattle.otp_run.specs.Deques.{OwnState, VictimState, index_of}
use Rattle.otp_run.specs.Schedulers.{SchedulerState, IsPlaced, numbers_from}
use Rattle.otp_run.specs.Gathers.{IsHome, IsCounted, IsAwaiting, Absorbed, DrainedInto, puts_of, taken_of, stolen_of, put_count, taken_count}
use Rattle.otp_tally.proofs.Sums.{sum_by-one}
use Rattle.otp_run.proofs.Places.{set_at, get_at, each_at, map-append}

-- a count of a deque changes nothing
pub counted_same : (old xs : List OwnState) (i : ℕ) (v w : OwnState) → xs ≡ old → v ≡ get_or xs i v → w ≡ v → set xs i w ≡ old
counted_same old xs i v w so_far is same = ap (set xs i) (same ∙ is) ∙ set-get_or xs i v ∙ so_far

pub counted_more : (old xs : List OwnState) (i left : ℕ) (v w : OwnState) → xs ≡ old → AllAt IsHome old → i < length xs → v ≡ get_or xs i v → w ≡ v → length v.puts ≡ length v.taken + left → AllAt (λ k o. k < i → IsCounted k o) xs
    → AllAt (λ k o. k < i + 1 → IsCounted k o) (set xs i w)
counted_more old xs i left v w so_far home within is same count all =
    let h : v.parts ≡ all_parts = subst (IsHome i) (sym is) (get_at IsHome xs i v (subst (AllAt IsHome) (sym so_far) home) within) in
    let p = ap (λ (o : OwnState). o.parts) same in
    let q = ap (λ (o : OwnState). length o.taken) same in
    let r = ap (λ (o : OwnState). length o.puts) same in
    set_at (λ k o. k < i → IsCounted k o) (λ k o. k < i + 1 → IsCounted k o) xs i w all (λ j x apart c less. c (omega arith)) (λ less. (omega arith, omega arith))

pub all_counted : (i : ℕ) (xs : List OwnState) → length xs ≤ i → AllAt (λ k o. k < i → IsCounted k o) xs → AllAt IsCounted xs
all_counted i xs done all = each_at (λ k o. k < i → IsCounted k o) IsCounted xs all (λ j x within c. c (omega arith))

-- no more was taken from them than put
counted_sum : (hs : List OwnState) → Each (IsCounted 0) hs → taken_count hs ≤ put_count hs
counted_sum [] all = omega arith
counted_sum (h ∷ hs) all =
    let p = counted_sum hs all.1 in
    let q = all.0.1 in
    omega (arith, sum_by-cons (λ (o : OwnState). length o.puts) h hs, sum_by-cons (λ (o : OwnState). length o.taken) h hs)

module _ (hs rest : List OwnState) (o : OwnState) (is : hs ≡ o ∷ rest) (all : Each (IsCounted 0) hs) where
  pub others_counted : Each (IsCounted 0) rest
  others_counted = (subst (Each (IsCounted 0)) is all).1

  pub room_for_one : (len capacity : ℕ) → put_count hs + len ≤ taken_count hs + capacity → length o.puts + len ≤ length o.taken + capacity
  room_for_one len capacity room =
      let p = ap put_count is in
      let q = ap taken_count is in
      let r = counted_sum rest others_counted in
      omega (arith, sum_by-cons (λ (o : OwnState). length o.puts) o rest, sum_by-cons (λ (o : OwnState). length o.taken) o rest)

  pub room_after : {J S : Type 0} (old new : List (ProcessState J S)) (len len' capacity : ℕ) → put_count hs + len ≤ taken_count hs + capacity → DrainedInto (o ∷ []) old new → len ≡ length old → len' ≡ length new → put_count rest + len' ≤ taken_count rest + capacity
  room_after old new len len' capacity room d before after =
      let p = ap put_count is in
      let q = ap taken_count is in
      let r = d.as_often (λ (t : Ticket). 1) in
      let a = sum_by-one o.puts in
      let b = sum_by-one o.taken in
      let c = sum_by-one (map ticket_of d.left) in
      let e = length-map d.left ticket_of in
      let l = ap (λ l. length l) d.listed in
      omega (arith, length-append old d.left, sum_by-cons (puts_of (λ (t : Ticket). 1)) o [], sum_by-cons (taken_of (λ (t : Ticket). 1)) o [], sum_by-cons (λ (o : OwnState). length o.puts) o rest, sum_by-cons (λ (o : OwnState). length o.taken) o rest)

module _ {J S : Type 0} where
  pub drained_more : (hs ks : List OwnState) (old mid new : List (ProcessState J S)) → DrainedInto hs old mid → DrainedInto ks mid new → DrainedInto (hs ++ ks) old new
  drained_more hs ks old mid new a b = record {
    left = a.left ++ b.left;
    listed = b.listed ∙ ap (λ l. l ++ b.left) a.listed ∙ append_assoc old a.left b.left;
    as_often = λ weight.
        let p = a.as_often weight in
        let q = b.as_often weight in
        let l : sum_by weight (map ticket_of (a.left ++ b.left)) ≡ sum_by weight (map ticket_of a.left ++ map ticket_of b.left) = ap (sum_by weight) (map-append ticket_of a.left b.left) in
        omega (arith, sum_by-append (puts_of weight) hs ks, sum_by-append (taken_of weight) hs ks, sum_by-append weight (map ticket_of a.left) (map ticket_of b.left));
  }

-- no way came home yet, and all of them did
pub none_absorbed : (old : List OwnState) → Absorbed old [] old
none_absorbed old = record { taken = λ weight. omega arith; put = λ weight. refl; many = refl }

nothing_left : (rest : List VictimState) → length rest ≡ 0 → rest ≡ []
nothing_left [] none = refl
nothing_left (v ∷ rest) none = absurd (omega (arith, none))

pub all_home : (rest : List VictimState) (now : List OwnState) → length rest ≡ 0 → AllAt (IsAwaiting rest) now → AllAt IsHome now
all_home rest now none all =
    each_at (IsAwaiting []) IsHome now (subst (λ (l : List VictimState). AllAt (IsAwaiting l) now) (nothing_left rest none) all) (λ j x within p. let q = p.1 in omega arith)

-- the ways that came home and the rest are all ways
pub still_all : (all yielded rest rest' : List VictimState) (v : VictimState) → rest ≡ v ∷ rest' → yielded ++ rest ≡ all → (yielded ++ v ∷ []) ++ rest' ≡ all
still_all all yielded rest rest' v next so_far = append_assoc yielded (v ∷ []) rest' ∙ ap (λ l. yielded ++ l) (sym next) ∙ so_far

pub absorbed_all : (old now : List OwnState) (all yielded rest : List VictimState) → length rest ≡ 0 → yielded ++ rest ≡ all → Absorbed old yielded now → Absorbed old all now
absorbed_all old now all yielded rest none whole a =
    subst (λ (l : List VictimState). Absorbed old l now) (sym (append-nil yielded) ∙ ap (λ l. yielded ++ l) (sym (nothing_left rest none)) ∙ whole) a

-- a way comes to the deque that it leads to, which awaits it
pub its_home : (now : List OwnState) (rest rest' : List VictimState) (v : VictimState) (i : ℕ) (o : OwnState) → rest ≡ v ∷ rest' → v.index ≡ i → i < length now → o ≡ get_or now i o → AllAt (IsAwaiting rest) now → (v.index ≡ o.index) × (o.parts < all_parts)
its_home now rest rest' v i o next at within is all =
    let all' : AllAt (IsAwaiting (v ∷ rest')) now = subst (λ (l : List VictimState). AllAt (IsAwaiting l) now) next all in
    let h : IsAwaiting (v ∷ rest') i o = subst (IsAwaiting (v ∷ rest') i) (sym is) (get_at (IsAwaiting (v ∷ rest')) now i o all' within) in
    let p = h.0 in
    let q = h.1 in
    (omega arith, omega arith)

-- one way more came home
module _ (old now : List OwnState) (ways rest rest' : List VictimState) (v : VictimState) (i : ℕ) (o w : OwnState)
    (next : rest ≡ v ∷ rest') (at : v.index ≡ i) (within : i < length now) (is : o ≡ get_or now i o) (came : w ≡ record o { parts = o.parts + 1; taken = o.taken ++ v.taken }) where
  pub awaiting_less : AllAt (IsAwaiting rest) now → AllAt (IsAwaiting rest') (set now i w)
  awaiting_less all =
      let all' : AllAt (IsAwaiting (v ∷ rest')) now = subst (λ (l : List VictimState). AllAt (IsAwaiting l) now) next all in
      let h : IsAwaiting (v ∷ rest') i o = subst (IsAwaiting (v ∷ rest') i) (sym is) (get_at (IsAwaiting (v ∷ rest')) now i o all' within) in
      let p = ap (λ (x : OwnState). x.parts) came in
      let q = h.1 in
      set_at (IsAwaiting (v ∷ rest')) (IsAwaiting rest') now i w all' (λ j x apart y. (y.0, let z = y.1 in omega arith)) (ap (λ (x : OwnState). x.index) came ∙ h.0, omega arith)

  pub absorbed_more : Absorbed old ways now → Absorbed old (ways ++ v ∷ []) (set now i w)
  absorbed_more a = record {
    taken = λ weight.
        let p = a.taken weight in
        let q = sum_by-set (taken_of weight) now i w o within in
        let r : taken_of weight (get_or now i o) ≡ taken_of weight o = ap (taken_of weight) (sym is) in
        let s : taken_of weight w ≡ sum_by weight (o.taken ++ v.taken) = ap (taken_of weight) came in
        omega (arith, sum_by-append weight o.taken v.taken, sum_by-append (stolen_of weight) ways (v ∷ []), sum_by-cons (stolen_of weight) v []);
    put = λ weight.
        let p = a.put weight in
        let q = sum_by-set (puts_of weight) now i w o within in
        let r : puts_of weight (get_or now i o) ≡ puts_of weight o = ap (puts_of weight) (sym is) in
        let s : puts_of weight w ≡ puts_of weight o = ap (puts_of weight) came in
        omega arith;
    many = length-set now i w ∙ a.many;
  }

pub others_inside : (count : ℕ) (rest rest' : List VictimState) (v : VictimState) → rest ≡ v ∷ rest' → Each (λ (x : VictimState). x.index < count) rest → (v.index < count) × Each (λ (x : VictimState). x.index < count) rest'
others_inside count rest rest' v next all = subst (Each (λ (x : VictimState). x.index < count)) next all

length-numbers_from : (first k : ℕ) → length (numbers_from first k) ≡ k
length-numbers_from first zero = refl
length-numbers_from first (suc k) = ap suc (length-numbers_from (first + 1) k)

-- one that is placed has fewer ways than there are parts
pub few_ways : (s : SchedulerState) → IsPlaced s → length s.others < all_parts
few_ways s p =
    let a = length-map s.others index_of in
    let b = ap (λ l. length l) p.ordered in
    let few = p.few in
    let inside = p.inside in
    omega (arith, length-append (numbers_from (s.own.index + 1) (s.count - 1 - s.own.index)) (numbers_from 0 s.own.index), length-numbers_from (s.own.index + 1) (s.count - 1 - s.own.index), length-numbers_from 0 s.own.index)

pub each_counted : (hs : List OwnState) → AllAt IsCounted hs → Each (IsCounted 0) hs
each_counted [] all = tt
each_counted (h ∷ hs) all = (all zero, each_counted hs (λ j. all (suc j)))
