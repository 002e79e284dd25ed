use Rattle.std.proofs.Common.{◌≡◌}
use Rattle.otp_run.specs.Deques.{missed}
use Rattle.otp_run.proofs.scheduler.steal_from.Given as goal

abbrev pub invariant-loop-at : goal.invariant-loop-at
invariant-loop-at g l = l.others.items ≡ missed l.at l.fn.others.items
