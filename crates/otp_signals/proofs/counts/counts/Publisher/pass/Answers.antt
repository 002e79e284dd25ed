use Rattle.std.proofs.Common.{arith, sym, ap, ◌∙◌}
use Rattle.otp_signals.proofs.CountsMoves.{parts_blank}
use Rattle.otp_signals.proofs.counts.counts.Publisher.pass.Goals as goal

pub split_seat-seat-requires : goal.split_seat-seat-requires
split_seat-seat-requires c =
    let o = c.self.invariant in
    let is = ap (λ t. t.shared.table_id) c.deref.ensures in
    let words = ap (λ t. t.words) is in
    (o.0.0 ∙ sym is, omega (arith, o.0.1, words), parts_blank _ _)
