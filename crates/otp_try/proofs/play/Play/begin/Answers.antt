use Rattle.otp_try.proofs.Pages.{adds_to-then}
use Rattle.otp_try.proofs.play.Play.begin.Goals as goal

pub returns-in-Ok : goal.returns-in-Ok
returns-in-Ok c =
    adds_to-then c.begin_picture.result c.args.self.now.trial c.welcome.new.self.trial c.begin_picture.new.self.trial
    c.args.self.now.page.items c.welcome.new.self.page.items c.begin_picture.new.self.page.items c.in-Ok.ensures (c.begin_picture.ensures)
