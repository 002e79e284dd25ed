use Rattle.otp_try.proofs.Pages.{ran-then, stops_adds, wrote_adds}
use Rattle.otp_try.proofs.play.Play.run.Goals as goal

pub returns-in-Ok : goal.returns-in-Ok
returns-in-Ok g c =
    ran-then c.open_input.result c.args.self.now.trial c.begin.new.self.trial c.open_input.new.self.trial c.args.self.now.page.items c.begin.new.self.page.items c.open_input.new.self.page.items
    (g.W.Output.seen c.args.output.now).bytes (g.W.Output.seen c.args.output.now).bytes (g.W.Output.seen c.open_input.new.output).bytes (wrote_adds c.args.self.now.trial c.begin.new.self.trial c.args.self.now.page.items c.begin.new.self.page.items (g.W.Output.seen c.args.output.now).bytes c.in-Ok.ensures) c.open_input.ensures

pub returns-in-Err : goal.returns-in-Err
returns-in-Err g c = stops_adds c.in-Err.end c.args.self.now.trial c.begin.new.self.trial c.args.self.now.page.items c.begin.new.self.page.items (g.W.Output.seen c.args.output.now).bytes c.in-Err.ensures
