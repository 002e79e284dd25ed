use Rattle.std.proofs.Common.{◌≡◌, ℕ, zero, suc, ◌+◌, ◌<◌, ◌∙◌, List, length, set, get_or, ap, refl, subst, arith}
use Rattle.std.specs.Prelude.{false, ◌==◌}
use Rattle.std.proofs.lemmas.List.{set-get_or}
use Rattle.otp_run.specs.Lists.{AllAt}
use Rattle.otp_run.specs.Schedulers.{SchedulerState, IsPlaced}
use Rattle.otp_run.proofs.Places.{set_at, each_at}
use Rattle.otp_run.proofs.gathering.is_all.Goals as goal

abbrev Stands : ℕ → ℕ → ℕ → SchedulerState → Type 0
Stands count i k s = k < i → (s.own.index ≡ k) × (s.count ≡ count) × IsPlaced s

some_of : (n : ℕ) → false ≡ (n == 0) → 0 < n
some_of zero e = cc
some_of (suc n) e = omega arith

-- one more stands at its place
stands_more : (i : ℕ) (ss : List SchedulerState) (s : SchedulerState) → s ≡ get_or ss i s → (s.own.index ≡ i) × (s.count ≡ length ss) → IsPlaced s → AllAt (Stands (length ss) i) ss → AllAt (Stands (length ss) (i + 1)) ss
stands_more i ss s is same placed all =
    subst (AllAt (Stands (length ss) (i + 1))) (ap (set ss i) is ∙ set-get_or ss i s)
    (set_at (Stands (length ss) i) (Stands (length ss) (i + 1)) ss i s all (λ j x apart p less. p (omega arith)) (λ less. (same.0, same.1, placed)))

pub loop-index-preserved : goal.loop-index-preserved
loop-index-preserved g c =
    let stands = c.if-not-stands_at.ensures {u = tt} in
    stands_more c.loop-index.index c.args.schedulers.now c.index-schedulers-index.result c.index-schedulers-index.is (stands.same.0 refl) (stands.placed refl) c.loop-index.invariant

pub returns-clause-all : goal.returns-clause-all
returns-clause-all g c =
    let test = c.loop-index-test.false in
    let some = c.if-is_empty.ensures {u = tt} in
    let all = each_at (Stands (length c.args.schedulers.now) c.loop-index.index) (λ k s. (s.own.index ≡ k) × (s.count ≡ length c.args.schedulers.now)) c.args.schedulers.now c.loop-index.invariant (λ j x within p. ((p (omega arith)).0, (p (omega arith)).1)) in
    (λ _. (some_of _ some, all), λ _. refl)

pub returns-clause-placed : goal.returns-clause-placed
returns-clause-placed g c =
    let test = c.loop-index-test.false in
    λ _. each_at (Stands (length c.args.schedulers.now) c.loop-index.index) (λ k s. IsPlaced s) c.args.schedulers.now c.loop-index.invariant (λ j x within p. (p (omega arith)).2)
