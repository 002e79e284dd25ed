use Rattle.std.proofs.Common.{refl}
use Rattle.otp_try.proofs.Pages.{puts_told}
use Rattle.otp_try.proofs.Pieces.{adds_nothing}
use Rattle.otp_try.proofs.play.Play.play_step.Goals as goal

pub returns-in-Ok : goal.returns-in-Ok
returns-in-Ok c =
    puts_told c.tell.result c.args.self.now.trial c.play_on.new.self.trial c.tell.new.self.trial c.new-told.result.items c.play_on.new.told.items
    c.args.self.now.page.items c.play_on.new.self.page.items c.as_slice.result.now c.tell.new.self.page.items
    c.new-told.ensures.items c.in-Ok.ensures.told c.play_on.ensures.page c.as_slice.ensures.value c.tell.ensures.ok c.tell.ensures.err c.tell.ensures.same

pub returns : goal.returns
returns c = (c.args.self.now.trial, adds_nothing c.args.self.now.trial c.args.self.now.trial c.args.self.now.page.items c.play_on.new.self.page.items refl c.play_on.ensures.page)
