use Rattle.otp_base.proofs.Kept.{order_stays}
use Rattle.otp_base.proofs.change.laws.order_stays.Goals as goal

pub returns : goal.returns
returns c = order_stays
