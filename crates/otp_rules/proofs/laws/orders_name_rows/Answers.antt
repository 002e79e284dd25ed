use Rattle.otp_rules.proofs.NamedRows.{orders_name_rows_from_law, orders_name_rows_law}
use Rattle.otp_rules.proofs.laws.orders_name_rows.Goals as goal

pub returns-clause-from_empty : goal.returns-clause-from_empty
returns-clause-from_empty c = orders_name_rows_law

pub returns-clause-from_any : goal.returns-clause-from_any
returns-clause-from_any c = orders_name_rows_from_law
