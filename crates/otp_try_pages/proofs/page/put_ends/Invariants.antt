use Rattle.std.proofs.Common.{◌≡◌, ◌++◌, drop}
use Rattle.otp_try_pages.specs.Timeline.{ends_from}
use Rattle.otp_try_pages.proofs.page.put_ends.Given as goal

abbrev pub invariant-loop-byte : goal.invariant-loop-byte
invariant-loop-byte l = l.out.items ++ ends_from l.line.items (drop l.byte-index l.told) ≡ l.fn.out.items ++ ends_from l.fn.line.items l.told
