use Rattle.std.proofs.Common.{refl}
use Rattle.otp_try.proofs.Pieces.{adds_nothing}
use Rattle.otp_try.proofs.play.Play.end_step.Goals as goal

pub returns-in-Ends-clause-drawn : goal.returns-in-Ends-clause-drawn
returns-in-Ends-clause-drawn c seats = (seats, adds_nothing seats seats c.args.self.now.page.items c.args.self.now.page.items refl refl)
