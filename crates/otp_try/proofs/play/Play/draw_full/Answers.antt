use Rattle.std.proofs.Common.{refl}
use Rattle.otp_try.proofs.Pieces.{adds_nothing}
use Rattle.otp_try.proofs.play.Play.draw_full.Goals as goal

pub returns-else-is_full-clause-drawn : goal.returns-else-is_full-clause-drawn
returns-else-is_full-clause-drawn c seats = adds_nothing seats seats c.args.self.now.page.items c.args.self.now.page.items refl refl
