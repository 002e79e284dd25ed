use Rattle.std.specs.Prelude.{◌≡◌}
use Rattle.otp_hand.specs.Begun.{NoneBegan}
use Rattle.otp_hand.specs.Ended.{NoneEnded}
use Rattle.otp_hand.proofs.runner.Runner.rouse.Given as goal

abbrev pub invariant-loop : goal.invariant-loop
invariant-loop g l =
    record {
      unsent : l.self.unsent ≡ l.fn.self.unsent;
      begun : NoneBegan l.fn.self.scheduler l.self.scheduler;
      ended : NoneEnded l.fn.self.scheduler l.self.scheduler;
    }

abbrev pub invariant-loop-2 : goal.invariant-loop-2
invariant-loop-2 g l =
    record {
      unsent : l.self.unsent ≡ l.fn.self.unsent;
      begun : NoneBegan l.fn.self.scheduler l.self.scheduler;
      ended : NoneEnded l.fn.self.scheduler l.self.scheduler;
    }
