use Rattle.std.proofs.Common.{◌≡◌, length}
use Rattle.otp_run.specs.Lists.{AllAt}
use Rattle.otp_run.specs.Opens.{IsFresh}
use Rattle.otp_run.proofs.queue.RunQueue.open.Given as goal

abbrev pub invariant-loop : goal.invariant-loop
invariant-loop g l = (length l.workers.items ≡ l.counter) × AllAt (λ k w. IsFresh w) l.workers.items
