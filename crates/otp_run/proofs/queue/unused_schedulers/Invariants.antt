use Rattle.std.proofs.Common.{◌≡◌, ℕ, [], ◌+◌, length}
use Rattle.std.specs.Prelude.{slice_get}
use Rattle.otp_run.specs.Lists.{AllAt}
use Rattle.otp_run.specs.Opens.{unused}
use Rattle.otp_run.specs.Rule.{all_parts}
use Rattle.otp_run.proofs.queue.unused_schedulers.Given as goal

abbrev pub invariant-loop-worker : goal.invariant-loop-worker
invariant-loop-worker g l =
    ((j : ℕ) → slice_get l.worker-iterator.rest.items j ≡ slice_get l.fn.workers.items (l.index + j))
    × (length l.schedulers.items ≡ l.index)
    × (l.index + length l.worker-iterator.rest.items ≡ length l.fn.workers.items)
    × AllAt (λ k s. s ≡ unused k all_parts []) l.schedulers.items
