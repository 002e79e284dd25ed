use Rattle.otp_try.proofs.Pages.{adds_still}
use Rattle.otp_try.proofs.play.Play.take_step.Goals as goal

pub returns-in-Ok : goal.returns-in-Ok
returns-in-Ok c =
    adds_still c.end_step.result c.args.self.now.trial c.play_step.new.self.trial c.end_step.new.self.trial c.args.self.now.page.items c.play_step.new.self.page.items c.end_step.new.self.page.items
    c.in-Ok.ensures c.end_step.ensures.same (c.end_step.ensures.drawn c.play_step.new.self.trial)
