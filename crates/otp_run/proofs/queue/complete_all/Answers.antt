use Rattle.std.proofs.Common.{◌≡◌, ℕ, ◌∙◌, ap, length, length-set, subst, arith}
use Rattle.otp_run.specs.Opens.{CompleteUpTo, opened}
use Rattle.otp_run.specs.Schedulers.{SchedulerState, IsPlaced}
use Rattle.otp_run.proofs.Places.{each_at}
use Rattle.otp_run.proofs.Shares.{is_placed, one_complete, completed_more, next_lent, next_unused}
use Rattle.otp_run.proofs.queue.complete_all.Goals as goal

pub complete-requires-clause-placed : goal.complete-requires-clause-placed
complete-requires-clause-placed g c =
    let test = c.loop-index-test.true in
    let size = c.len-count.ensures in
    let ok = c.args.schedulers.now.ok in
    let many = c.loop-index.invariant.0 in
    let count : ℕ = length c.args.schedulers.now.items in
    let same : count ≡ c.len-count.result = omega arith in
    subst (λ n. IsPlaced (record c.index_mut.result.now { count = n })) same
    (is_placed count c.loop-index.index c.index_mut.result.now (omega arith) c.requires.few (next_lent count c.loop-index.index c.loop-index.schedulers.items c.index_mut.result.now (omega arith) c.index_mut.ensures.value c.loop-index.invariant.1))

pub complete-requires-clause-unused : goal.complete-requires-clause-unused
complete-requires-clause-unused g c =
    let test = c.loop-index-test.true in
    let size = c.len-count.ensures in
    let ok = c.args.schedulers.now.ok in
    let many = c.loop-index.invariant.0 in
    next_unused (length c.args.schedulers.now.items) c.loop-index.index c.loop-index.schedulers.items c.index_mut.result.now (omega arith) c.index_mut.ensures.value c.loop-index.invariant.1

pub loop-index-preserved : goal.loop-index-preserved
loop-index-preserved g c =
    let test = c.loop-index-test.true in
    let size = c.len-count.ensures in
    let ok = c.args.schedulers.now.ok in
    let many = c.loop-index.invariant.0 in
    let count : ℕ = length c.args.schedulers.now.items in
    let same : c.len-count.result ≡ count = omega arith in
    let i : ℕ = c.loop-index.index in
    let v : SchedulerState = c.index_mut.result.now in
    let h = next_lent count i c.loop-index.schedulers.items v (omega arith) c.index_mut.ensures.value c.loop-index.invariant.1 in (
      length-set c.loop-index.schedulers.items i c.complete.new.self ∙ many,
      completed_more count i c.loop-index.schedulers.items c.complete.new.self (one_complete count i v c.complete.new.self (omega arith) c.requires.few h (c.complete.ensures ∙ ap (λ n. record v { count = n }) same)) c.loop-index.invariant.1,
    )

pub returns-clause-opened : goal.returns-clause-opened
returns-clause-opened g c =
    let test = c.loop-index-test.false in
    let size = c.len-count.ensures in
    let ok = c.args.schedulers.now.ok in
    let many = c.loop-index.invariant.0 in
    let count : ℕ = length c.args.schedulers.now.items in
    each_at (CompleteUpTo count c.loop-index.index) (λ k s. s ≡ opened count k) c.loop-index.schedulers.items c.loop-index.invariant.1 (λ j x within p. p.0 (omega arith))
