use Rattle.std.proofs.Common.{arith, sym, ap, ◌∙◌}
use Rattle.otp_signals.proofs.CountsMoves.{publishes}
use Rattle.otp_signals.proofs.counts.counts.Publisher.publish.Goals as goal

pub swap-requires : goal.swap-requires
swap-requires c =
    let o = c.self.invariant in
    let i = c.self.inside in
    let is = ap (λ t. t.shared.table_id) c.deref.ensures in
    let words = ap (λ t. t.words) is in
    (o.0.0 ∙ sym is, omega (arith, o.0.1, words), publishes _ _ _ i.seat.me.0 i.seat.me.1 o.1)
