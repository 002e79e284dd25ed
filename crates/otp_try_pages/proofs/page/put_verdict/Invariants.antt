use Rattle.std.proofs.Common.{◌≡◌, ◌++◌, drop}
use Rattle.otp_try_pages.specs.Timeline.{verdict_from}
use Rattle.otp_try_pages.proofs.page.put_verdict.Given as goal

abbrev pub invariant-loop-byte : goal.invariant-loop-byte
invariant-loop-byte l = l.out.items ++ verdict_from l.line.items (drop l.byte-index l.verdict) ≡ l.fn.out.items ++ verdict_from l.fn.line.items l.verdict
