use Rattle.std.proofs.Common.{arith, sym, ◌∙◌}
use Rattle.otp_signals.proofs.Moves.{cuts}
use Rattle.otp_signals.proofs.words.Words.cut.Goals as goal

pub split_seat-requires : goal.split_seat-requires
split_seat-requires g c =
    let w = c.self.invariant in
    let r = c.requires in
    (r.seat.0 ∙ sym w.0, omega (arith, w.1.words), cuts _ _ _ _ _ _ r.quota (λ slot lo hi. (r.slots slot lo hi, r.unposted slot lo hi)))
