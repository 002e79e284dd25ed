use Rattle.otp_rules.proofs.Earlier.{orders_appended_law}
use Rattle.otp_rules.proofs.laws.orders_are_appended.Goals as goal

pub returns : goal.returns
returns c = orders_appended_law
