use Rattle.otp_try.proofs.play.Play.play.Goals as goal

pub returns-in-Ok : goal.returns-in-Ok
returns-in-Ok g c = c.conclude.ensures c.args.self.now.trial c.args.self.now.page.items (g.W.Output.seen c.args.output.now).bytes c.in-Ok.ensures
