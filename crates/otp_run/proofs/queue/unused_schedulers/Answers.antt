use Rattle.std.proofs.Common.{◌≡◌, suc, ◌+◌, [], Some, length, arith, ap, sym, ◌∙◌, subst, add-zero, length-append}
use Rattle.std.specs.Prelude.{slice_get}
use Rattle.otp_run.specs.Lists.{AllAt}
use Rattle.otp_run.specs.Opens.{unused}
use Rattle.otp_run.specs.Rule.{all_parts}
use Rattle.otp_run.proofs.Places.{push_at}
use Rattle.otp_run.proofs.queue.unused_schedulers.Goals as goal

pub loop-worker-init : goal.loop-worker-init
loop-worker-init g c =
    let gives = c.into_iter-worker-iterator.ensures.into_iter_gives in
    let none = c.new-schedulers.ensures.items in
    let all = ap (λ l. length l) gives.0 in (
      λ j. ap (λ l. slice_get l j) gives.0 ∙ ap (slice_get c.args.workers.items) (omega arith),
      ap (λ l. length l) none,
      omega arith,
      subst (AllAt (λ k s. s ≡ unused k all_parts [])) (sym none) (λ k. tt),
    )

pub unused_scheduler-requires-clause-name : goal.unused_scheduler-requires-clause-name
unused_scheduler-requires-clause-name g c =
    let n = c.loop-worker.index in
    let all = c.args.workers.items in
    let e = (c.in-Some.ensures {u = tt}).steps.0 in
    let at : slice_get all n ≡ Some c.in-Some.worker = ap (slice_get all) (sym (add-zero n)) ∙ sym (c.loop-worker.invariant.0 0) ∙ ap (λ l. slice_get l 0) e in
    rw at at (c.requires.names n)

pub unused_scheduler-requires-clause-fresh : goal.unused_scheduler-requires-clause-fresh
unused_scheduler-requires-clause-fresh g c =
    let n = c.loop-worker.index in
    let all = c.args.workers.items in
    let e = (c.in-Some.ensures {u = tt}).steps.0 in
    let at : slice_get all n ≡ Some c.in-Some.worker = ap (slice_get all) (sym (add-zero n)) ∙ sym (c.loop-worker.invariant.0 0) ∙ ap (λ l. slice_get l 0) e in
    rw at at (c.requires.fresh n)

pub loop-worker-preserved : goal.loop-worker-preserved
loop-worker-preserved g c =
    let e = (c.in-Some.ensures {u = tt}).steps.0 in
    let step = ap length e in
    let count = c.loop-worker.invariant.2 in
    let many = c.loop-worker.invariant.1 in
    let p = (c.in-Ok.ensures {u = tt}).items in (
      λ k. ap (λ l. slice_get l (suc k)) (sym e) ∙ c.loop-worker.invariant.0 (suc k) ∙ ap (slice_get c.args.workers.items) (omega arith),
      ap length p ∙ length-append _ _ ∙ ap (λ m. m + 1) many,
      omega arith,
      subst (AllAt (λ k s. s ≡ unused k all_parts [])) (sym p)
          (push_at (λ k s. s ≡ unused k all_parts []) _ _ c.loop-worker.invariant.3 (c.unused_scheduler.ensures ∙ ap (λ k. unused k all_parts []) (sym many))),
    )

pub returns-clause-count : goal.returns-clause-count
returns-clause-count g c =
    let none = (c.in-None.ensures {u = tt}).steps.0 in
    let many = c.loop-worker.invariant.1 in
    let all = c.loop-worker.invariant.2 in
    omega arith

pub returns-clause-unused : goal.returns-clause-unused
returns-clause-unused g c = c.loop-worker.invariant.3
