use Rattle.otp_rules.proofs.Waits.{starts_wait_law}
use Rattle.otp_rules.proofs.laws.start_calls_wait.Goals as goal

pub returns : goal.returns
returns c = starts_wait_law
