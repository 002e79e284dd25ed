use Rattle.std.proofs.Common.{◌≡◌, ◌++◌, drop, true}
use Rattle.otp_try_pages.specs.Replayed.{texts_from}
use Rattle.otp_try_pages.proofs.replayed.put_texts_from.Given as goal

abbrev pub invariant-loop-byte : goal.invariant-loop-byte
invariant-loop-byte l =
    l.out.items ++ texts_from l.is_first l.line.items (drop l.byte-index l.told) ≡ l.fn.out.items ++ texts_from true l.fn.line.items l.told
