use Rattle.otp_laws.proofs.Owed.{calls_start_law}
use Rattle.otp_laws.proofs.laws.calls_start.Goals as goal

pub returns : goal.returns
returns c = calls_start_law
