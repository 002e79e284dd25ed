use Rattle.otp_hand.proofs.Asides.{told_behind}
use Rattle.otp_hand.proofs.waiting.waiting.Waiting.take_told.Goals as goal

pub returns : goal.returns
returns g c = told_behind c.self.inside.aside c.self.inside.idle c.take_told.new.self c.args.self.now c.take_told.result c.self.view_is c.take_told.ensures
