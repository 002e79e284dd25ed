use Rattle.otp_try.proofs.Pages.{concludes, concludes_early}
use Rattle.otp_try.proofs.play.Play.conclude.Goals as goal

pub returns-in-Ok : goal.returns-in-Ok
returns-in-Ok g c seats page before so_far =
    concludes c.write_out.result seats c.args.self.now.trial page c.args.self.now.page.items c.sum_up.new.self.page.items before (g.W.Output.seen c.args.output.now).bytes (g.W.Output.seen c.write_out.new.output).bytes
    so_far (c.in-Ok.ensures) c.write_out.ensures

pub returns-in-Err : goal.returns-in-Err
returns-in-Err g c seats page before so_far =
    c.close_early.ensures seats page before
    (concludes_early c.in-Err.end seats c.args.self.now.trial page c.args.self.now.page.items c.sum_up.new.self.page.items before (g.W.Output.seen c.args.output.now).bytes so_far (c.in-Err.ensures))
