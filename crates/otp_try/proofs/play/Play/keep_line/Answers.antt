use Rattle.std.proofs.Common.{refl}
use Rattle.otp_try.proofs.Pieces.{adds_nothing}
use Rattle.otp_try.proofs.play.Play.keep_line.Goals as goal

pub returns-in-Ok-clause-drawn : goal.returns-in-Ok-clause-drawn
returns-in-Ok-clause-drawn c seats = adds_nothing seats seats c.args.self.now.page.items c.keep_done.new.self.page.items refl c.keep_done.ensures.page

pub returns-in-Err-clause-drawn : goal.returns-in-Err-clause-drawn
returns-in-Err-clause-drawn c seats = (seats, adds_nothing seats seats c.args.self.now.page.items c.keep_done.new.self.page.items refl c.keep_done.ensures.page)
