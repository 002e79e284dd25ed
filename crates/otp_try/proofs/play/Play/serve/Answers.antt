use Rattle.otp_try.proofs.Pages.{ran-then}
use Rattle.otp_try.proofs.play.Play.serve.Goals as goal

pub returns-in-Ok-clause-ran : goal.returns-in-Ok-clause-ran
returns-in-Ok-clause-ran g c =
    ran-then c.serve_next.result c.args.self.now.trial c.ask.new.self.trial c.serve_next.new.self.trial c.args.self.now.page.items c.ask.new.self.page.items c.serve_next.new.self.page.items
    (g.W.Output.seen c.args.output.now).bytes (g.W.Output.seen c.ask.new.output).bytes (g.W.Output.seen c.serve_next.new.output).bytes c.in-Ok.ensures c.serve_next.ensures.ran
