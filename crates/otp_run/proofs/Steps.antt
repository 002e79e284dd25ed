-- Each step on a deque keeps its rule.
use Rattle.std.proofs.Common.{◌≡◌, ◌≢◌, ⊎_elim, ℕ, ◌+◌, ◌<◌, ◌≤◌, List, [], ◌∷◌, ◌++◌, length, map, set, refl, sym, ap, ◌∙◌, arith, length-append}
use Rattle.std.specs.Prelude.{sum_by}
use Rattle.std.proofs.lemmas.List.{length-map}
use Rattle.std.proofs.lemmas.List.Sums.{sum_by-append, sum_by-cons}
use mathlib.Core.Option.{some}
use lib.ListN.{get_elem?}
use Rattle.crossbeam_deque.specs.Tasks.{Pushes, Takes, Learns, Forks, Merges}
use Rattle.crossbeam_deque.proofs.Lists.{at_set, at_snoc}
use Rattle.otp_job.specs.Processes.{ProcessState}
use Rattle.otp_job.specs.declared.process.Ticket.{Ticket}
use Rattle.otp_run.specs.declared.rule.RunView.{RunView}
use Rattle.otp_run.specs.Rule.{IsDeque, all_parts, ticket_of, view_of, blank_view, thief_view, kept_view, joined_view, Puts, IsEmptied, TakesLeft, Counts}
use Rattle.otp_run.specs.Rule.{Takes as TakesTickets}
use Rattle.otp_run.proofs.Places.{map-append}
use Rattle.otp_tally.proofs.Sums.{sum_by-set, sum_by-alone, sum_by-one}

-- one pass changed what it put or took, and the deque has changed by as much
changed : (items more : List Ticket) (views : List RunView) (id : ℕ) (v w : RunView) → get_elem? views id ≡ some v → 0 < v.parts → w.parts ≡ v.parts
    → ((weight : Ticket → ℕ) → sum_by weight w.put + sum_by weight v.taken + sum_by weight items ≡ sum_by weight v.put + sum_by weight w.taken + sum_by weight more)
    → IsDeque items views → IsDeque more (set views id w)
changed items more views id v w at some_part same weighs d = record {
  whole = let s = sum_by-set (λ (u : RunView). u.parts) views id v w at in let o = d.whole in omega arith;
  as_often = λ weight.
      let s = sum_by-set (λ (u : RunView). sum_by weight u.put) views id v w at in
      let t = sum_by-set (λ (u : RunView). sum_by weight u.taken) views id v w at in
      let o = d.as_often weight in
      let p = weighs weight in
      omega arith;
  idle = λ j u e none. ⊎_elim
      (λ (y : (j ≡ id) × (w ≡ u)). absurd (let p : w.parts ≡ u.parts = ap (λ (z : RunView). z.parts) y.1 in omega arith))
      (λ (y : (j ≢ id) × (get_elem? views j ≡ some u)). d.idle j u y.1 none)
      (at_set views id j w u e);
}

forked : (items : List Ticket) (views : List RunView) (id : ℕ) (v : RunView) → get_elem? views id ≡ some v → 1 < v.parts → IsDeque items views → IsDeque items (set views id (kept_view v) ++ thief_view ∷ [])
forked items views id v at two d =
    let l : RunView = kept_view v in
    let r : RunView = thief_view in
    record {
      whole =
          let f : RunView → ℕ = λ u. u.parts in
          let s = sum_by-set f views id v l at in
          let o = d.whole in
          omega (arith, sum_by-append f (set views id l) (r ∷ []), sum_by-cons f r []);
      as_often = λ weight.
          let f : RunView → ℕ = λ u. sum_by weight u.put in
          let g : RunView → ℕ = λ u. sum_by weight u.taken in
          let s = sum_by-set f views id v l at in
          let t = sum_by-set g views id v l at in
          let o = d.as_often weight in
          omega (arith, sum_by-append f (set views id l) (r ∷ []), sum_by-cons f r [], sum_by-append g (set views id l) (r ∷ []), sum_by-cons g r []);
      idle = λ j u e none. ⊎_elim
          (λ was. ⊎_elim
          (λ (y : (j ≡ id) × (l ≡ u)). absurd (let p : l.parts ≡ u.parts = ap (λ (z : RunView). z.parts) y.1 in omega arith))
          (λ (y : (j ≢ id) × (get_elem? views j ≡ some u)). d.idle j u y.1 none)
          (at_set views id j l u was))
          (λ (is : r ≡ u). absurd (let p : r.parts ≡ u.parts = ap (λ (z : RunView). z.parts) is in omega arith))
          (at_snoc (set views id l) r u j e);
    }

merged : (items : List Ticket) (views : List RunView) (id other : ℕ) (v w : RunView) → get_elem? views id ≡ some v → ¬ (other ≡ id) → get_elem? (set views id (joined_view v w)) other ≡ some w → 0 < v.parts → IsDeque items views
    → IsDeque items (set (set views id (joined_view v w)) other blank_view)
merged items views id other v w at apart there some_part d =
    let b : RunView = joined_view v w in
    record {
      whole =
          let f : RunView → ℕ = λ u. u.parts in
          let s = sum_by-set f views id v b at in
          let t = sum_by-set f (set views id b) other w blank_view there in
          let o = d.whole in
          omega arith;
      as_often = λ weight.
          let f : RunView → ℕ = λ u. sum_by weight u.put in
          let g : RunView → ℕ = λ u. sum_by weight u.taken in
          let s = sum_by-set f views id v b at in
          let t = sum_by-set f (set views id b) other w blank_view there in
          let x = sum_by-set g views id v b at in
          let y = sum_by-set g (set views id b) other w blank_view there in
          let o = d.as_often weight in
          omega (arith, sum_by-append weight v.put w.put, sum_by-append weight v.taken w.taken);
      idle = λ j u e none. ⊎_elim
          (λ (y : (j ≡ other) × (blank_view ≡ u)). (sym (ap (λ (z : RunView). z.put) y.1), sym (ap (λ (z : RunView). z.taken) y.1)))
          (λ (y : (j ≢ other) × (get_elem? (set views id b) j ≡ some u)). ⊎_elim
          (λ (x : (j ≡ id) × (b ≡ u)). absurd (let p : b.parts ≡ u.parts = ap (λ (z : RunView). z.parts) x.1 in omega arith))
          (λ (x : (j ≢ id) × (get_elem? views j ≡ some u)). d.idle j u x.1 none)
          (at_set views id j b u y.1))
          (at_set (set views id b) other j blank_view u e);
    }

-- who has all parts knows what is inside
accounts : (items : List Ticket) (views : List RunView) (id : ℕ) (v : RunView) → IsDeque items views → get_elem? views id ≡ some v → v.parts ≡ all_parts → (weight : Ticket → ℕ) → sum_by weight v.put ≡ sum_by weight v.taken + sum_by weight items
accounts items views id v d at all weight =
    let f : RunView → ℕ = λ u. sum_by weight u.put in
    let g : RunView → ℕ = λ u. sum_by weight u.taken in
    let whole = d.whole ∙ sym all in
    let p = sum_by-alone (λ (u : RunView). u.parts) f views id v at (λ j u e none. ap (sum_by weight) (d.idle j u e none).0) whole in
    let q = sum_by-alone (λ (u : RunView). u.parts) g views id v at (λ j u e none. ap (sum_by weight) (d.idle j u e none).1) whole in
    let o = d.as_often weight in
    omega arith

counted : (items : List Ticket) (views : List RunView) (id : ℕ) (v : RunView) → IsDeque items views → get_elem? views id ≡ some v → Counts v (length items)
counted items views id v d at all =
    let p = accounts items views id v d at all (λ (t : Ticket). 1) in
    let a = sum_by-one v.put in
    let b = sum_by-one v.taken in
    let c = sum_by-one items in
    omega arith

module _ {J S : Type 0} where
  pub puts : (id : ℕ) (v : RunView) (xs : List (ProcessState J S)) → 0 < v.parts → Pushes (λ (items : List (ProcessState J S)) views. IsDeque (map ticket_of items) views) id v xs (Puts v (map ticket_of xs))
  puts id v xs some_part items views d at =
      let w : RunView = view_of v.parts (v.put ++ map ticket_of xs) v.taken in (
        w,
        changed (map ticket_of items) (map ticket_of (items ++ xs)) views id v w at some_part refl
            (λ weight.
            let l : sum_by weight (map ticket_of (items ++ xs)) ≡ sum_by weight (map ticket_of items ++ map ticket_of xs) = ap (sum_by weight) (map-append ticket_of items xs) in
            omega (arith, sum_by-append weight v.put (map ticket_of xs), sum_by-append weight (map ticket_of items) (map ticket_of xs)))
            d,
        refl,
      )

  pub takes : (id : ℕ) (v : RunView) → 0 < v.parts → Takes (λ (items : List (ProcessState J S)) views. IsDeque (map ticket_of items) views) id v 1 (λ xs w. TakesTickets v (map ticket_of xs) w)
  takes id v some_part xs items views some_task one d at =
      let w : RunView = view_of v.parts v.put (v.taken ++ map ticket_of xs) in (
        w,
        changed (map ticket_of (xs ++ items)) (map ticket_of items) views id v w at some_part refl
            (λ weight.
            let l : sum_by weight (map ticket_of (xs ++ items)) ≡ sum_by weight (map ticket_of xs ++ map ticket_of items) = ap (sum_by weight) (map-append ticket_of xs items) in
            omega (arith, sum_by-append weight v.taken (map ticket_of xs), sum_by-append weight (map ticket_of xs) (map ticket_of items)))
            d,
        refl,
      )

  pub cuts : (id : ℕ) (v : RunView) → 1 < v.parts → Forks (λ (items : List (ProcessState J S)) views. IsDeque (map ticket_of items) views) id v (kept_view v) thief_view
  cuts id v two items views d at = forked (map ticket_of items) views id v at two d

  pub merges : (id other : ℕ) (v w : RunView) → 0 < v.parts → Merges (λ (items : List (ProcessState J S)) views. IsDeque (map ticket_of items) views) id v other w (joined_view v w) blank_view
  merges id other v w some_part items views d at apart there = merged (map ticket_of items) views id other v w at apart there some_part d

pub finds : (id : ℕ) (v : RunView) (views : List RunView) → IsDeque [] views → get_elem? views id ≡ some v → IsEmptied v
finds id v views d at all weight = let p = accounts [] views id v d at all weight in let z : sum_by weight [] ≡ 0 = refl in omega arith

module _ {J S : Type 0} where
  pub takes_left : (id : ℕ) (v : RunView) → 0 < v.parts → Takes (λ (items : List (ProcessState J S)) views. IsDeque (map ticket_of items) views) id v 1 (λ xs w. TakesLeft v (map ticket_of xs) w)
  unfolding takes
  takes_left id v some_part xs items views some_task one d at =
      let t = takes id v some_part xs items views some_task one d at in
      let w : RunView = view_of v.parts v.put (v.taken ++ map ticket_of xs) in
      let left : v.parts ≡ all_parts → length w.taken ≤ length w.put = λ all.
      let p = counted (map ticket_of (xs ++ items)) views id v d at all in
      let a = ap (λ l. length l) (map-append ticket_of xs items) in
      omega (arith, length-append (map ticket_of xs) (map ticket_of items), length-append v.taken (map ticket_of xs)) in
      (w, t.1, (refl, left))

  pub counts : (id : ℕ) (v : RunView) → Learns (λ (items : List (ProcessState J S)) views. IsDeque (map ticket_of items) views) id v (λ items. Counts v (length items))
  counts id v items views d at all = let p = counted (map ticket_of items) views id v d at all in let q = length-map items ticket_of in omega arith
