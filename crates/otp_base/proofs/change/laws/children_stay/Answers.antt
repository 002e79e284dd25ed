use Rattle.otp_base.proofs.Counted.{children_stay}
use Rattle.otp_base.proofs.change.laws.children_stay.Goals as goal

pub returns : goal.returns
returns c = children_stay
