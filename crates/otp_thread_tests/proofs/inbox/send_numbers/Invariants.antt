use Rattle.std.proofs.Common.{◌≡◌, ◌<◌}
use Rattle.otp_thread_tests.proofs.inbox.send_numbers.Given as goal

abbrev pub invariant-loop-number : goal.invariant-loop-number
invariant-loop-number g l = (l.sender.inbox ≡ l.inbox) × (0 < l.sender.parts)
