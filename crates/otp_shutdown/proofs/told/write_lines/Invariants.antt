use Rattle.std.proofs.Common.{◌≡◌, ◌≤◌, ◌++◌, IfSome, drop}
use Rattle.otp_spec.specs.declared.limits.TheConstants.{MAX_READING}
use Rattle.otp_shutdown.specs.Told.{lines_text}
use Rattle.otp_shutdown.proofs.told.write_lines.Given as goal

abbrev pub invariant-loop-stop : goal.invariant-loop-stop
invariant-loop-stop l =
    IfSome l.from (λ t. t ≤ MAX_READING)
    × (l.out.items ++ lines_text l.from (drop l.stop-index l.stops) ≡ l.fn.out.items ++ lines_text l.fn.from l.stops)
