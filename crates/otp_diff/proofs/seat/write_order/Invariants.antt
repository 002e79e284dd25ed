use Rattle.std.proofs.Common.{◌≡◌, ◌++◌, drop}
use Rattle.otp_diff.specs.Changes.{order_text}
use Rattle.otp_diff.proofs.seat.write_order.Given as goal

abbrev pub invariant-loop-spec : goal.invariant-loop-spec
invariant-loop-spec l =
    l.out.items ++ order_text l.others (drop l.spec-index l.specs) ≡ l.fn.out.items ++ order_text l.others l.specs
