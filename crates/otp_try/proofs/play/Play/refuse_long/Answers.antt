use Rattle.std.proofs.Common.{refl}
use Rattle.otp_try.proofs.Pieces.{adds_nothing}
use Rattle.otp_try.proofs.play.Play.refuse_long.Goals as goal

pub returns : goal.returns
returns c =
    (c.args.self.now.trial, adds_nothing c.args.self.now.trial c.args.self.now.trial c.args.self.now.page.items c.begin_line.new.self.page.items refl c.begin_line.ensures.page)
