use Rattle.std.proofs.Common.{◌≡◌, ◌++◌, drop}
use Rattle.otp_try.specs.Fit.{fit}
use Rattle.otp_try.proofs.remarks.fit.write_lines.Given as goal

abbrev pub invariant-loop-byte : goal.invariant-loop-byte
invariant-loop-byte l =
    l.out.items ++ fit l.line.items (drop l.byte-index l.text) ≡ l.fn.out.items ++ fit l.fn.line.items l.text
