use Rattle.otp_try.proofs.Pages.{ends_early}
use Rattle.otp_try.proofs.play.Play.close_early.Goals as goal

pub returns-in_default : goal.returns-in_default
returns-in_default g c seats page before so_far =
    ends_early c.args.end c.write_last.result seats page c.args.self.now.page.items before (g.W.Output.seen c.args.output.now).bytes (g.W.Output.seen c.write_last.new.output).bytes c.in_default.not-OutputFailed so_far (c.write_last.ensures)
