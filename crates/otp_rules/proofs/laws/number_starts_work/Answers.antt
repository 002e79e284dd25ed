use Rattle.otp_rules.proofs.NeedsWork.{number_starts_work_law}
use Rattle.otp_rules.proofs.laws.number_starts_work.Goals as goal

pub returns : goal.returns
returns c = number_starts_work_law
