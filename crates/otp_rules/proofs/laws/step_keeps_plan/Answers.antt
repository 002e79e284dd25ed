use Rattle.otp_rules.proofs.Keeps.{step_keeps_plan_law}
use Rattle.otp_rules.proofs.laws.step_keeps_plan.Goals as goal

pub returns : goal.returns
returns c = step_keeps_plan_law
