use Rattle.otp_rules.proofs.StartTurn.{stays_fit_law}
use Rattle.otp_rules.proofs.laws.stays_fit.Goals as goal

pub returns : goal.returns
returns c = stays_fit_law
