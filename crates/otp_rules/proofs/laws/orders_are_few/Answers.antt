use Rattle.otp_rules.proofs.Few.{orders_few_law}
use Rattle.otp_rules.proofs.laws.orders_are_few.Goals as goal

pub returns : goal.returns
returns c = orders_few_law
