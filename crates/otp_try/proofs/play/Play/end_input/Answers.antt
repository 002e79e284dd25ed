use Rattle.otp_try.proofs.Pages.{adds_to-then}
use Rattle.otp_try.proofs.play.Play.end_input.Goals as goal

pub returns-in-Ok : goal.returns-in-Ok
returns-in-Ok c =
    adds_to-then c.take_last.result c.args.self.now.trial c.leave_prompt.new.self.trial c.take_last.new.self.trial
    c.args.self.now.page.items c.leave_prompt.new.self.page.items c.take_last.new.self.page.items c.in-Ok.ensures c.take_last.ensures
