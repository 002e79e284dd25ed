use Rattle.std.proofs.Common.{refl}
use Rattle.otp_try.proofs.Pages.{adds_any}
use Rattle.otp_try.proofs.Pieces.{adds_nothing}
use Rattle.otp_try.proofs.play.Play.keep_byte.Goals as goal

pub returns-else-ne : goal.returns-else-ne
returns-else-ne c =
    adds_any c.keep.result c.args.self.now.trial c.args.self.now.trial c.args.self.now.page.items c.args.self.now.page.items (adds_nothing c.args.self.now.trial c.args.self.now.trial c.args.self.now.page.items c.args.self.now.page.items refl refl)
