use Rattle.otp_rules.proofs.Named.{orders_numbered_law, orders_numbered_from_law}
use Rattle.otp_rules.proofs.laws.orders_are_numbered.Goals as goal

pub returns-clause-from_empty : goal.returns-clause-from_empty
returns-clause-from_empty c = orders_numbered_law

pub returns-clause-from_any : goal.returns-clause-from_any
returns-clause-from_any c = orders_numbered_from_law
