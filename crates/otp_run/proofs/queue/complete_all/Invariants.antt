use Rattle.std.proofs.Common.{◌≡◌, length}
use Rattle.otp_run.specs.Lists.{AllAt}
use Rattle.otp_run.specs.Opens.{CompleteUpTo}
use Rattle.otp_run.proofs.queue.complete_all.Given as goal

abbrev pub invariant-loop-index : goal.invariant-loop-index
invariant-loop-index g l = (length l.schedulers.items ≡ length l.fn.schedulers.items) × AllAt (CompleteUpTo (length l.fn.schedulers.items) l.index) l.schedulers.items
