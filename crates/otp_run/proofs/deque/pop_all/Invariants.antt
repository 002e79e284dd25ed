use Rattle.std.proofs.Common.{◌≡◌}
use Rattle.std.specs.Prelude.{vec_capacity}
use Rattle.crossbeam_deque.specs.Handles.{worker_view, worker_flavor}
use Rattle.otp_run.proofs.Drains.{Drains}
use Rattle.otp_run.proofs.deque.pop_all.Given as goal

abbrev pub invariant-loop : goal.invariant-loop
invariant-loop g l =
    (worker_flavor l.worker ≡ 0)
    × (vec_capacity l.left ≡ vec_capacity l.fn.left)
    × Drains (worker_view l.fn.worker) (worker_view l.worker) l.fn.left.items l.left.items l.counter
