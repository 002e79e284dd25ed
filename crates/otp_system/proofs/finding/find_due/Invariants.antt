use Rattle.std.specs.Prelude.{◌≡◌}
use Rattle.otp_system.proofs.finding.find_due.Given as goal

abbrev pub invariant-loop-place : goal.invariant-loop-place
invariant-loop-place g l = l.senders ≡ l.fn.senders
