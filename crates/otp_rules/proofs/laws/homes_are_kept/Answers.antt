use Rattle.otp_rules.proofs.Homes.{homes_kept_law, homes_kept_from_law}
use Rattle.otp_rules.proofs.laws.homes_are_kept.Goals as goal

pub returns-clause-from_empty : goal.returns-clause-from_empty
returns-clause-from_empty c = homes_kept_law

pub returns-clause-from_any : goal.returns-clause-from_any
returns-clause-from_any c = homes_kept_from_law
