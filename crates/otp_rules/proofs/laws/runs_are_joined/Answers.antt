use Rattle.otp_rules.proofs.Runs.{runs_joined_law, run_goes_on_law}
use Rattle.otp_rules.proofs.laws.runs_are_joined.Goals as goal

pub returns-clause-lists : goal.returns-clause-lists
returns-clause-lists c = runs_joined_law

pub returns-clause-one_more : goal.returns-clause-one_more
returns-clause-one_more c = run_goes_on_law
