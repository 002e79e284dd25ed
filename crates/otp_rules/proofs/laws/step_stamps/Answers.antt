use Rattle.otp_rules.proofs.Keeps.{step_stamps_law}
use Rattle.otp_rules.proofs.laws.step_stamps.Goals as goal

pub returns : goal.returns
returns c = step_stamps_law
