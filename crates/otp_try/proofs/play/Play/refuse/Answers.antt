use Rattle.std.proofs.Common.{refl}
use Rattle.otp_try.proofs.Pieces.{adds_nothing}
use Rattle.otp_try.proofs.play.Play.refuse.Goals as goal

pub returns-in-Err : goal.returns-in-Err
returns-in-Err c = (c.args.self.now.trial, adds_nothing c.args.self.now.trial c.args.self.now.trial c.args.self.now.page.items c.args.self.now.page.items refl refl)
