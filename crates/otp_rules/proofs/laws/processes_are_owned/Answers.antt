use Rattle.otp_rules.proofs.Processes.{processes_owned_law, processes_stay_owned_law}
use Rattle.otp_rules.proofs.laws.processes_are_owned.Goals as goal

pub returns-clause-from_empty : goal.returns-clause-from_empty
returns-clause-from_empty c = processes_owned_law

pub returns-clause-from_any : goal.returns-clause-from_any
returns-clause-from_any c = processes_stay_owned_law
