use Rattle.otp_rules.proofs.StartTurn.{start_order_law, start_order_from_empty}
use Rattle.otp_rules.proofs.laws.start_order.Goals as goal

pub returns : goal.returns
returns c = record { from_any = start_order_law; from_empty = start_order_from_empty }
