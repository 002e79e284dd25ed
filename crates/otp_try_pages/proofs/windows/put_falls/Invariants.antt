use Rattle.std.proofs.Common.{◌≡◌, ◌++◌, drop}
use Rattle.otp_try_pages.specs.Windows.{falls_from}
use Rattle.otp_try_pages.proofs.windows.put_falls.Given as goal

abbrev pub invariant-loop-byte : goal.invariant-loop-byte
invariant-loop-byte l =
    l.out.items ++ falls_from l.last l.path l.fallen l.line.items (drop l.byte-index l.told)
    ≡ l.fn.out.items ++ falls_from l.last l.path 0 l.fn.line.items l.told
