use Rattle.std.proofs.Common.{◌≡◌, ◌≤◌, ◌++◌, IfSome, drop}
use Rattle.otp_spec.specs.declared.limits.TheConstants.{MAX_READING}
use Rattle.otp_objects.specs.Stops.{next_stops}
use Rattle.otp_objects.proofs.stops.write_next_stops.Given as goal

abbrev pub invariant-loop-stop : goal.invariant-loop-stop
invariant-loop-stop l =
    IfSome l.from (λ t. t ≤ MAX_READING)
    × (l.out.items ++ next_stops l.from (drop l.stop-index l.stops) ≡ l.fn.out.items ++ next_stops l.fn.from l.stops)
