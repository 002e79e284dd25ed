use Rattle.otp_trial.specs.Played.{Stand}
use Rattle.otp_try.proofs.Pages.{ran_adds, still_ran, stops_adds, wrote_adds}
use Rattle.otp_try.proofs.play.Play.take_byte.Goals as goal

pub returns-in-Ok : goal.returns-in-Ok
returns-in-Ok g c =
    let b : Stand = c.take_line.new.self.trial in
    still_ran c.hand_out_much.result c.args.self.now.trial b c.hand_out_much.new.self.trial c.args.self.now.page.items c.take_line.new.self.page.items c.hand_out_much.new.self.page.items
    (g.W.Output.seen c.args.output.now).bytes (g.W.Output.seen c.args.output.now).bytes (g.W.Output.seen c.hand_out_much.new.output).bytes
    (wrote_adds c.args.self.now.trial b c.args.self.now.page.items c.take_line.new.self.page.items (g.W.Output.seen c.args.output.now).bytes c.in-Ok.ensures) c.hand_out_much.ensures.same (c.hand_out_much.ensures.ran b)

pub returns-in-Err : goal.returns-in-Err
returns-in-Err g c =
    stops_adds c.in-Err.end c.args.self.now.trial c.take_line.new.self.trial c.args.self.now.page.items c.take_line.new.self.page.items (g.W.Output.seen c.args.output.now).bytes c.in-Err.ensures

pub returns-then-byte-ne10 : goal.returns-then-byte-ne10
returns-then-byte-ne10 g c =
    ran_adds c.keep_byte.result c.args.self.now.trial c.keep_byte.new.self.trial c.args.self.now.page.items c.keep_byte.new.self.page.items (g.W.Output.seen c.args.output.now).bytes c.keep_byte.ensures
