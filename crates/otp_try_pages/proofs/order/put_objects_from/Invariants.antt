use Rattle.std.proofs.Common.{◌≡◌, ◌++◌, drop, true}
use Rattle.otp_try_pages.specs.Objects.{objects_from}
use Rattle.otp_try_pages.proofs.order.put_objects_from.Given as goal

abbrev pub invariant-loop-byte : goal.invariant-loop-byte
invariant-loop-byte l =
    l.out.items ++ objects_from l.asks_down l.is_first l.line.items (drop l.byte-index l.told)
    ≡ l.fn.out.items ++ objects_from l.fn.asks_down true l.fn.line.items l.told
