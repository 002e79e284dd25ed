use Rattle.otp_rules.proofs.Deadlines.{deadlines_come_law}
use Rattle.otp_rules.proofs.laws.deadlines_come.Goals as goal

pub returns : goal.returns
returns c = deadlines_come_law
