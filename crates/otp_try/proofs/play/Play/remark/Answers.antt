use Rattle.std.proofs.Common.{◌∙◌, refl}
use Rattle.otp_try.proofs.Pages.{puts_remark}
use Rattle.otp_try.proofs.Pieces.{adds_nothing}
use Rattle.otp_try.proofs.play.Play.remark.Goals as goal

pub returns-in-Ok : goal.returns-in-Ok
returns-in-Ok c =
    puts_remark c.put.result c.args.self.now.trial c.put.new.self.trial c.args.self.now.page.items c.put.new.self.page.items c.as_slice.result.now
    c.in-Ok.ensures.0 c.put.ensures.same (c.as_slice.ensures.value ∙ c.in-Ok.ensures.1) c.put.ensures.ok c.put.ensures.err

pub returns-in-Err : goal.returns-in-Err
returns-in-Err c = (c.args.self.now.trial, adds_nothing c.args.self.now.trial c.args.self.now.trial c.args.self.now.page.items c.args.self.now.page.items refl refl)
