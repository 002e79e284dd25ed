use Rattle.otp_laws.proofs.EndOrders.{end_orders_end_law}
use Rattle.otp_laws.proofs.laws.end_orders_end.Goals as goal

pub returns : goal.returns
returns c = end_orders_end_law
