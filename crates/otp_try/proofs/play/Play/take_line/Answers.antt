use Rattle.otp_try.proofs.Pages.{adds_to-after}
use Rattle.otp_try.proofs.play.Play.take_line.Goals as goal

pub returns : goal.returns
returns c =
    adds_to-after c.serve_line.result c.args.self.now.trial c.begin_line.new.self.trial c.serve_line.new.self.trial
    c.args.self.now.page.items c.begin_line.new.self.page.items c.serve_line.new.self.page.items c.begin_line.ensures.same c.begin_line.ensures.page c.serve_line.ensures
