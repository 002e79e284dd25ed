use Rattle.std.proofs.Common.{◌∙◌, ◌++◌, List, ℕ, ap, refl}
use Rattle.otp_try.proofs.Pages.{closing, sums_any}
use Rattle.otp_try.proofs.Pieces.{adds_nothing}
use Rattle.otp_try.proofs.play.Play.put_summary.Goals as goal

pub returns-in_default : goal.returns-in_default
returns-in_default c = (c.args.self.now.trial, adds_nothing c.args.self.now.trial c.args.self.now.trial c.args.self.now.page.items c.args.self.now.page.items refl refl)

pub returns-in-Ok-put : goal.returns-in-Ok-put
returns-in-Ok-put c =
    sums_any c.judge.result c.args.self.now.trial c.args.self.now.page.items c.put.new.self.page.items
    (closing c.args.self.now.trial c.args.self.now.page.items c.put.new.self.page.items c.in-Ok.text.items c.in-Ok.ensures
    (c.in-Ok-put.ensures.ok ∙ ap (λ (t : List ℕ). c.args.self.now.page.items ++ t) c.as_slice.ensures.value))

pub returns : goal.returns
returns c = (c.args.self.now.trial, adds_nothing c.args.self.now.trial c.args.self.now.trial c.args.self.now.page.items c.put.new.self.page.items refl c.in-Err.ensures.err)
