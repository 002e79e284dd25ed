use Rattle.std.proofs.Common.{◌≡◌, ◌++◌, drop, map}
use Rattle.otp_replay.specs.Logs.{shown}
use Rattle.otp_replay.proofs.reading.write_shown.Given as goal

abbrev pub invariant-loop-byte : goal.invariant-loop-byte
invariant-loop-byte l = l.out.items ++ map shown (drop l.byte-index l.line) ≡ l.fn.out.items ++ map shown l.line
