use Rattle.std.proofs.Common.{◌≡◌}
use Rattle.otp_signals.specs.Lists.{AllIn}
use Rattle.otp_thread_tests.proofs.signals.draw_several.Given as goal

abbrev pub invariant-loop : goal.invariant-loop
invariant-loop g l = AllIn l.fn.owner.drawn l.owner.drawn × (l.owner.slots ≡ l.fn.owner.slots)
