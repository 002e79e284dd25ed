use Rattle.std.proofs.Common.{refl}
use Rattle.otp_try.proofs.Pages.{adds_to-after}
use Rattle.otp_try.proofs.Pieces.{adds_nothing}
use Rattle.otp_try.proofs.play.Play.add_moment.Goals as goal

pub returns-in-Ok-clause-drawn : goal.returns-in-Ok-clause-drawn
returns-in-Ok-clause-drawn c seats =
    adds_to-after c.draw_full.result seats seats seats c.args.self.now.page.items c.keep_moment.new.self.page.items c.draw_full.new.self.page.items refl c.keep_moment.ensures.page (c.draw_full.ensures.drawn seats)

pub returns-in-Err-clause-drawn : goal.returns-in-Err-clause-drawn
returns-in-Err-clause-drawn c seats = (seats, adds_nothing seats seats c.args.self.now.page.items c.keep_moment.new.self.page.items refl c.keep_moment.ensures.page)
