use Rattle.otp_base.proofs.Fitted.{children_fit}
use Rattle.otp_base.proofs.change.laws.children_fit.Goals as goal

pub returns : goal.returns
returns c = children_fit
