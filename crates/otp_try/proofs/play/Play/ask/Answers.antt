use Rattle.otp_trial.specs.Played.{Stand}
use Rattle.otp_try.proofs.Pages.{still_ran, stops_adds, wrote_adds}
use Rattle.otp_try.proofs.play.Play.ask.Goals as goal

pub returns-in-Ok : goal.returns-in-Ok
returns-in-Ok g c =
    let b : Stand = c.prompt.new.self.trial in
    still_ran c.hand_out.result c.args.self.now.trial b c.hand_out.new.self.trial c.args.self.now.page.items c.prompt.new.self.page.items c.hand_out.new.self.page.items
    (g.W.Output.seen c.args.output.now).bytes (g.W.Output.seen c.args.output.now).bytes (g.W.Output.seen c.hand_out.new.output).bytes
    (wrote_adds c.args.self.now.trial b c.args.self.now.page.items c.prompt.new.self.page.items (g.W.Output.seen c.args.output.now).bytes c.in-Ok.ensures) c.hand_out.ensures.same (c.hand_out.ensures.ran b)

pub returns-in-Err : goal.returns-in-Err
returns-in-Err g c = stops_adds c.in-Err.end c.args.self.now.trial c.prompt.new.self.trial c.args.self.now.page.items c.prompt.new.self.page.items (g.W.Output.seen c.args.output.now).bytes c.in-Err.ensures
