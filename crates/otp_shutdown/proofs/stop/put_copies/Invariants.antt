use Rattle.std.proofs.Common.{◌≡◌, ◌++◌, drop}
use Rattle.otp_shutdown.proofs.stop.put_copies.Given as goal

abbrev pub invariant-loop-stop : goal.invariant-loop-stop
invariant-loop-stop l = l.out ++ drop l.stop-index l.stops ≡ l.fn.out ++ l.stops
