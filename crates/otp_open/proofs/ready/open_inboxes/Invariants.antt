use Rattle.std.proofs.Common.{◌≡◌, length}
use Rattle.otp_open.proofs.ready.open_inboxes.Given as goal

abbrev pub invariant-loop : goal.invariant-loop
invariant-loop g l = length l.inboxes.items ≡ l.counter
