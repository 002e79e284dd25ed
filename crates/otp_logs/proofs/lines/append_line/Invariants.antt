use Rattle.std.proofs.Common.{◌≡◌}
use Rattle.otp_logs.specs.Lines.{ends_in}
use Rattle.otp_logs.proofs.lines.append_line.Given as goal

abbrev pub invariant-loop-byte : goal.invariant-loop-byte
invariant-loop-byte l = ends_in l.out.items ≡ ends_in l.fn.out.items
