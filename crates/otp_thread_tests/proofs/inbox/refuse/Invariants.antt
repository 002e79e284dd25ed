use Rattle.std.proofs.Common.{◌≡◌}
use Rattle.otp_thread_tests.proofs.inbox.refuse.Given as goal

abbrev pub invariant-loop-number : goal.invariant-loop-number
invariant-loop-number g l = l.taker.inbox ≡ l.inbox
