use Rattle.std.proofs.Common.{◌∙◌, refl}
use Rattle.otp_try.proofs.Pages.{puts_picture}
use Rattle.otp_try.proofs.Pieces.{adds_nothing}
use Rattle.otp_try.proofs.play.Play.draw.Goals as goal

pub returns-in-Ok-clause-drawn : goal.returns-in-Ok-clause-drawn
returns-in-Ok-clause-drawn c seats =
    puts_picture c.put_picture.result seats c.args.self.now.page.items c.put_picture.new.self.page.items c.as_slice.result.now
    c.in-Ok.ensures.0 c.in-Ok.ensures.1 c.in-Ok.ensures.2 (c.as_slice.ensures.value ∙ c.in-Ok.ensures.3) c.put_picture.ensures.ok c.put_picture.ensures.err

pub returns-in-Err-clause-drawn : goal.returns-in-Err-clause-drawn
returns-in-Err-clause-drawn c seats = (seats, adds_nothing seats seats c.args.self.now.page.items c.args.self.now.page.items refl refl)
