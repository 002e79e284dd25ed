use Rattle.otp_laws.proofs.Refusals.{refusals_change_none_law}
use Rattle.otp_laws.proofs.laws.refusals_change_nothing.Goals as goal

pub returns : goal.returns
returns c = refusals_change_none_law
