use Rattle.otp_rules.proofs.Lasting.{stays_in_order_law}
use Rattle.otp_rules.proofs.lives.stays_in_order.Goals as goal

pub returns : goal.returns
returns c = stays_in_order_law
