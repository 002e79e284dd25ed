use Rattle.otp_try.proofs.Pages.{adds_still}
use Rattle.otp_try.proofs.play.Play.begin_picture.Goals as goal

pub returns-in-Ok : goal.returns-in-Ok
returns-in-Ok c =
    adds_still c.add_moment.result c.args.self.now.trial c.write_legend.new.self.trial c.add_moment.new.self.trial
    c.args.self.now.page.items c.write_legend.new.self.page.items c.add_moment.new.self.page.items (c.in-Ok.ensures) c.add_moment.ensures.same (c.add_moment.ensures.drawn c.write_legend.new.self.trial)
