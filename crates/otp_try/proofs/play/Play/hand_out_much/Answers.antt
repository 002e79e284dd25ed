use Rattle.std.proofs.Common.{refl}
use Rattle.otp_try.proofs.Pages.{wrote_adds}
use Rattle.otp_try.proofs.Pieces.{adds_nothing}
use Rattle.otp_try.proofs.play.Play.hand_out_much.Goals as goal

pub returns-then-len-lt-PIECE-clause-ran : goal.returns-then-len-lt-PIECE-clause-ran
returns-then-len-lt-PIECE-clause-ran g c seats = wrote_adds seats seats c.args.self.now.page.items c.args.self.now.page.items (g.W.Output.seen c.args.output.now).bytes (adds_nothing seats seats c.args.self.now.page.items c.args.self.now.page.items refl refl)
