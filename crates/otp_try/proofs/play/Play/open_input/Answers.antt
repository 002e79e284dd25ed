use Rattle.std.proofs.Common.{refl}
use Rattle.otp_try.proofs.Pages.{wrote_adds}
use Rattle.otp_try.proofs.Pieces.{adds_nothing}
use Rattle.otp_try.proofs.play.Play.open_input.Goals as goal

pub returns-in_default : goal.returns-in_default
returns-in_default g c = (c.args.self.now.trial, wrote_adds c.args.self.now.trial c.args.self.now.trial c.args.self.now.page.items c.args.self.now.page.items (g.W.Output.seen c.args.output.now).bytes (adds_nothing c.args.self.now.trial c.args.self.now.trial c.args.self.now.page.items c.args.self.now.page.items refl refl))
