-- The ledgers of all schedulers, added up.
use Rattle.std.proofs.Common.{◌≡◌, ℕ, ◌+◌, ◌-◌, ◌≤◌, List, [], ◌∷◌, ◌++◌, length, map, refl, sym, ap, ◌∙◌, subst, arith, append_assoc}
use Rattle.std.specs.Prelude.{sum_by}
use Rattle.std.proofs.lemmas.List.{append-nil}
use Rattle.std.proofs.lemmas.List.Sums.{sum_by-append, sum_by-cons}
use Rattle.otp_job.specs.declared.process.Ticket.{Ticket}
use Rattle.otp_job.specs.Processes.{ProcessState}
use Rattle.otp_run.specs.Lists.{Each}
use Rattle.otp_run.specs.Rule.{ticket_of}
use Rattle.otp_run.specs.Deques.{OwnState, VictimState, stolen}
use Rattle.otp_run.specs.Schedulers.{SchedulerState, IsPlaced, puts, finds, out}
use Rattle.otp_run.specs.Gathers.{IsKept, IsLiveTotal, Absorbed, DrainedInto, all_ways, own_of, puts_of, taken_of, stolen_of, put_count, taken_count, begun_of, ended_of}
use Rattle.otp_run.proofs.Places.{map-append}
use Rattle.otp_tally.proofs.Sums.{sum_by-one}
use Rattle.otp_run.proofs.Ways.{each_append}

abbrev one : Ticket → ℕ
one t = 1

stolen-sum : (weight : Ticket → ℕ) (vs : List VictimState) → sum_by weight (stolen vs) ≡ sum_by (stolen_of weight) vs
stolen-sum weight [] = refl
stolen-sum weight (v ∷ vs) =
    let p = stolen-sum weight vs in
    let q : sum_by weight (stolen (v ∷ vs)) ≡ sum_by weight (v.taken ++ stolen vs) = refl in
    omega (arith, sum_by-append weight v.taken (stolen vs), sum_by-cons (stolen_of weight) v vs)

puts_told : (weight : Ticket → ℕ) (ss : List SchedulerState) → sum_by (puts_of weight) (map own_of ss) ≡ sum_by (λ (s : SchedulerState). sum_by weight (puts s)) ss
puts_told weight [] = refl
puts_told weight (s ∷ ss) = let p = puts_told weight ss in omega (arith, sum_by-cons (puts_of weight) s.own (map own_of ss), sum_by-cons (λ (s : SchedulerState). sum_by weight (puts s)) s ss)

finds_told : (weight : Ticket → ℕ) (ss : List SchedulerState) → sum_by (taken_of weight) (map own_of ss) + sum_by (stolen_of weight) (all_ways ss) ≡ sum_by (λ (s : SchedulerState). sum_by weight (finds s)) ss
finds_told weight [] = refl
finds_told weight (s ∷ ss) =
    let p = finds_told weight ss in
    let q = stolen-sum weight s.others in
    omega (arith, sum_by-cons (taken_of weight) s.own (map own_of ss), sum_by-append (stolen_of weight) s.others (all_ways ss), sum_by-cons (λ (s : SchedulerState). sum_by weight (finds s)) s ss, sum_by-append weight s.own.taken (stolen s.others))

-- a sum of weights of 1 is a sum of lengths
ones : {A : Type 0} (f : A → List Ticket) (xs : List A) → sum_by (λ (a : A). sum_by one (f a)) xs ≡ sum_by (λ (a : A). length (f a)) xs
ones f [] = refl
ones {A} f (x ∷ xs) =
    let p = ones f xs in
    let q = sum_by-one (f x) in
    omega (arith, sum_by-cons (λ (a : A). sum_by one (f a)) x xs, sum_by-cons (λ (a : A). length (f a)) x xs)

balance : (ss : List SchedulerState) → Each IsKept ss
    → sum_by begun_of ss + sum_by (λ (s : SchedulerState). length (finds s)) ss ≡ sum_by (λ (s : SchedulerState). length (puts s)) ss + sum_by ended_of ss + sum_by out ss
unfolding out
balance [] all = refl
balance (s ∷ ss) all =
    let p = balance ss all.1 in
    let put = all.0.0.begun_is_put in
    let first = all.0.0.found_first in
    let o : out s ≡ length (finds s) - (length (puts s) - s.begun) - s.ended = refl in
    omega (arith, sum_by-cons begun_of s ss, sum_by-cons ended_of s ss, sum_by-cons out s ss, sum_by-cons (λ (s : SchedulerState). length (finds s)) s ss, sum_by-cons (λ (s : SchedulerState). length (puts s)) s ss)

module _ (ss : List SchedulerState) (homes now : List OwnState) (ways : List VictimState) (are_homes : homes ≡ map own_of ss) (are_ways : ways ≡ all_ways ss) (kept : Each IsKept ss) (absorbed : Absorbed homes ways now) where
  all_puts : (weight : Ticket → ℕ) → sum_by (puts_of weight) now ≡ sum_by (λ (s : SchedulerState). sum_by weight (puts s)) ss
  all_puts weight = absorbed.put weight ∙ ap (sum_by (puts_of weight)) are_homes ∙ puts_told weight ss

  all_finds : (weight : Ticket → ℕ) → sum_by (taken_of weight) now ≡ sum_by (λ (s : SchedulerState). sum_by weight (finds s)) ss
  all_finds weight =
      let p = absorbed.taken weight in
      let q = ap (sum_by (taken_of weight)) are_homes in
      let r = ap (sum_by (stolen_of weight)) are_ways in
      let t = finds_told weight ss in
      omega arith

  -- what is left has room where begun less ended has
  pub room_for_left : put_count now ≤ taken_count now + (sum_by begun_of ss - sum_by ended_of ss)
  room_for_left =
      let p = all_puts one in
      let q = all_finds one in
      let a = ones (λ (o : OwnState). o.puts) now in
      let b = ones (λ (o : OwnState). o.taken) now in
      let c = ones puts ss in
      let d = ones finds ss in
      let e = balance ss kept in
      omega arith

  pub live_told : {J S : Type 0} (left : List (ProcessState J S)) → DrainedInto now [] left → IsLiveTotal ss (sum_by begun_of ss - sum_by ended_of ss) (map ticket_of left)
  live_told left d =
      let often : (weight : Ticket → ℕ) → sum_by (λ (s : SchedulerState). sum_by weight (puts s)) ss ≡ sum_by (λ (s : SchedulerState). sum_by weight (finds s)) ss + sum_by weight (map ticket_of left) = λ weight.
      let p = all_puts weight in
      let q = all_finds weight in
      let r = d.as_often weight in
      let l = ap (λ xs. sum_by weight (map ticket_of xs)) d.listed in
      omega arith in
      let p = often one in
      let c = ones puts ss in
      let f = ones finds ss in
      let e = balance ss kept in
      let n = sum_by-one (map ticket_of left) in
      record { as_often = often; balance = omega arith; live_is = omega arith }

all_ways-push : (ss : List SchedulerState) (s : SchedulerState) → all_ways (ss ++ s ∷ []) ≡ all_ways ss ++ s.others
all_ways-push [] s = append-nil s.others
all_ways-push (x ∷ xs) s = ap (λ l. x.others ++ l) (all_ways-push xs s) ∙ sym (append_assoc x.others (all_ways xs) s.others)

-- one scheduler more was taken apart
module _ (ss rest rest' : List SchedulerState) (s : SchedulerState) (next : rest ≡ s ∷ rest') where
  pub placed_rest : Each IsPlaced rest → Each IsPlaced rest'
  placed_rest all = (subst (Each IsPlaced) next all).1

  pub placed_next : Each IsPlaced rest → IsPlaced s
  placed_next all = (subst (Each IsPlaced) next all).0

  pub kept_more : Each IsKept ss → IsKept s → Each IsKept (ss ++ s ∷ [])
  kept_more all kept = each_append IsKept ss (s ∷ []) all (kept, tt)

  pub homes_more : (old now new : List OwnState) → now ≡ old ++ map own_of ss → new ≡ now ++ s.own ∷ [] → new ≡ old ++ map own_of (ss ++ s ∷ [])
  homes_more old now new so_far pushed = pushed ∙ ap (λ (l : List OwnState). l ++ s.own ∷ []) so_far ∙ append_assoc old (map own_of ss) (s.own ∷ []) ∙ ap (λ l. old ++ l) (sym (map-append own_of ss (s ∷ [])))

  pub ways_more : (old now new : List VictimState) → now ≡ old ++ all_ways ss → new ≡ now ++ s.others → new ≡ old ++ all_ways (ss ++ s ∷ [])
  ways_more old now new so_far pushed = pushed ∙ ap (λ (l : List VictimState). l ++ s.others) so_far ∙ append_assoc old (all_ways ss) s.others ∙ ap (λ l. old ++ l) (sym (all_ways-push ss s))

module _ (ss : List SchedulerState) (homes now counted : List OwnState) (ways : List VictimState) (are_homes : homes ≡ map own_of ss) (are_ways : ways ≡ all_ways ss) (kept : Each IsKept ss) (absorbed : Absorbed homes ways now) (same : counted ≡ now) where
  pub room_told : put_count counted ≤ taken_count counted + (sum_by begun_of ss - sum_by ended_of ss)
  room_told =
      let p = room_for_left ss homes now ways are_homes are_ways kept absorbed in
      let q = ap put_count same in
      let r = ap taken_count same in
      omega arith

  module _ {J S : Type 0} (none left : List (ProcessState J S)) (nothing : none ≡ []) (drained : DrainedInto counted none left) where
    drained_all : DrainedInto now [] left
    drained_all = subst (λ (z : List OwnState × List (ProcessState J S)). DrainedInto z.0 z.1 left) (λ i. (same i, nothing i)) drained

    total : IsLiveTotal ss (sum_by begun_of ss - sum_by ended_of ss) (map ticket_of left)
    total = live_told ss homes now ways are_homes are_ways kept absorbed left drained_all

    pub no_more_ended : (begun ended : ℕ) → begun ≡ sum_by begun_of ss → ended ≡ sum_by ended_of ss → ended ≤ begun
    no_more_ended begun ended b e = let p = total.balance in omega arith

    pub total_told : (begun ended : ℕ) → begun ≡ sum_by begun_of ss → ended ≡ sum_by ended_of ss → IsLiveTotal ss (begun - ended) (map ticket_of left)
    total_told begun ended b e = subst (λ (z : ℕ × ℕ). IsLiveTotal ss (z.0 - z.1) (map ticket_of left)) (λ i. (sym b i, sym e i)) total
