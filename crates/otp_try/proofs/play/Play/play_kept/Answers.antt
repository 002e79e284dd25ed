use Rattle.otp_try.proofs.Pages.{adds_still}
use Rattle.otp_try.proofs.play.Play.play_kept.Goals as goal

pub returns-in-Ok : goal.returns-in-Ok
returns-in-Ok c =
    adds_still c.keep_line.result c.args.self.now.trial c.play_line.new.self.trial c.keep_line.new.self.trial c.args.self.now.page.items c.play_line.new.self.page.items c.keep_line.new.self.page.items
    c.in-Ok.ensures c.keep_line.ensures.same (c.keep_line.ensures.drawn c.play_line.new.self.trial)
