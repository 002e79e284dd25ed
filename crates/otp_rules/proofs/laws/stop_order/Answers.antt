use Rattle.otp_rules.proofs.InTurn.{stop_order_law, stop_order_from_empty}
use Rattle.otp_rules.proofs.laws.stop_order.Goals as goal

pub returns : goal.returns
returns c = record { from_any = stop_order_law; from_empty = stop_order_from_empty }
