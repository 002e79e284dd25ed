use Rattle.std.proofs.Common.{arith, sym, ◌∙◌}
use Rattle.otp_signals.proofs.Moves.{parts_blank}
use Rattle.otp_signals.proofs.words.Words.viewer.Goals as goal

pub split_seat-requires : goal.split_seat-requires
split_seat-requires g c =
    let w = c.self.invariant in
    (c.owner.invariant.0 ∙ sym w.0, omega (arith, w.1.words), parts_blank _ _ _)
