use Rattle.std.proofs.Common.{refl}
use Rattle.otp_try.proofs.Pieces.{adds_nothing, undone_by}
use Rattle.otp_try.proofs.play.Play.play_again.Goals as goal

pub returns-in-Ok : goal.returns-in-Ok
returns-in-Ok c = undone_by c.args.self.now.trial c.in-Ok.trial c.args.self.now.page.items c.in-Ok.ensures

pub returns-in-Err : goal.returns-in-Err
returns-in-Err c = (c.args.self.now.trial, adds_nothing c.args.self.now.trial c.args.self.now.trial c.args.self.now.page.items c.args.self.now.page.items refl refl)
