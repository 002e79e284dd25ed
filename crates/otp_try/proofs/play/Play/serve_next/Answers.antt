use Rattle.std.proofs.Common.{refl}
use Rattle.otp_try.proofs.Pages.{wrote_adds}
use Rattle.otp_try.proofs.Pieces.{adds_nothing}
use Rattle.otp_try.proofs.play.Play.serve_next.Goals as goal

pub returns-in_default-clause-ran : goal.returns-in_default-clause-ran
returns-in_default-clause-ran g c = (c.args.self.now.trial, wrote_adds c.args.self.now.trial c.args.self.now.trial c.args.self.now.page.items c.args.self.now.page.items (g.W.Output.seen c.args.output.now).bytes (adds_nothing c.args.self.now.trial c.args.self.now.trial c.args.self.now.page.items c.args.self.now.page.items refl refl))

pub returns-then-count-eq0-clause-ran : goal.returns-then-count-eq0-clause-ran
returns-then-count-eq0-clause-ran g c = wrote_adds c.args.self.now.trial c.args.self.now.trial c.args.self.now.page.items c.args.self.now.page.items (g.W.Output.seen c.args.output.now).bytes (adds_nothing c.args.self.now.trial c.args.self.now.trial c.args.self.now.page.items c.args.self.now.page.items refl refl)
