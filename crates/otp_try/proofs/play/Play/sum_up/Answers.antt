use Rattle.otp_try.proofs.Pages.{sums-then}
use Rattle.otp_try.proofs.play.Play.sum_up.Goals as goal

pub returns-in-Ok : goal.returns-in-Ok
returns-in-Ok c =
    sums-then c.put_summary.result c.args.self.now.trial c.draw.new.self.trial c.args.self.now.page.items c.draw.new.self.page.items c.put_summary.new.self.page.items
    (c.in-Ok.ensures.drawn c.args.self.now.trial) c.draw.ensures.same (c.put_summary.ensures)

pub returns-in-Err : goal.returns-in-Err
returns-in-Err c = c.in-Err.ensures.drawn c.args.self.now.trial
