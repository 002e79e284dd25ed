use Rattle.std.proofs.Common.{refl}
use Rattle.otp_try.proofs.Pages.{ran-then, ran_adds, stops-then, wrote-then, wrote_adds}
use Rattle.otp_try.proofs.Pieces.{adds_nothing}
use Rattle.otp_try.proofs.play.Play.serve_all.Goals as goal

pub loop-init : goal.loop-init
loop-init g c = wrote_adds c.args.self.now.trial c.args.self.now.trial c.args.self.now.page.items c.args.self.now.page.items (g.W.Output.seen c.args.output.now).bytes (adds_nothing c.args.self.now.trial c.args.self.now.trial c.args.self.now.page.items c.args.self.now.page.items refl refl)

pub returns-in-Ok-false : goal.returns-in-Ok-false
returns-in-Ok-false g c =
    ran-then c.end_input.result c.args.self.now.trial c.serve.new.self.trial c.end_input.new.self.trial c.args.self.now.page.items c.serve.new.self.page.items c.end_input.new.self.page.items (g.W.Output.seen c.args.output.now).bytes (g.W.Output.seen c.serve.new.output).bytes (g.W.Output.seen c.serve.new.output).bytes
    (wrote-then c.args.self.now.trial c.loop.self.trial c.serve.new.self.trial c.args.self.now.page.items c.loop.self.page.items c.serve.new.self.page.items (g.W.Output.seen c.args.output.now).bytes (g.W.Output.seen c.loop.output).bytes (g.W.Output.seen c.serve.new.output).bytes c.loop.invariant c.in-Ok-false.ensures.ran)
    (ran_adds c.end_input.result c.serve.new.self.trial c.end_input.new.self.trial c.serve.new.self.page.items c.end_input.new.self.page.items (g.W.Output.seen c.serve.new.output).bytes c.end_input.ensures)

pub returns-in-Err : goal.returns-in-Err
returns-in-Err g c = stops-then c.in-Err.end c.args.self.now.trial c.loop.self.trial c.args.self.now.page.items c.loop.self.page.items c.serve.new.self.page.items (g.W.Output.seen c.args.output.now).bytes (g.W.Output.seen c.loop.output).bytes (g.W.Output.seen c.serve.new.output).bytes c.loop.invariant c.in-Err.ensures.ran

pub loop-preserved : goal.loop-preserved
loop-preserved g c = wrote-then c.args.self.now.trial c.loop.self.trial c.serve.new.self.trial c.args.self.now.page.items c.loop.self.page.items c.serve.new.self.page.items (g.W.Output.seen c.args.output.now).bytes (g.W.Output.seen c.loop.output).bytes (g.W.Output.seen c.serve.new.output).bytes c.loop.invariant c.in-Ok-true.ensures.ran
