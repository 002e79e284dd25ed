use Rattle.otp_text.proofs.Reasons.{reasons_back}
use Rattle.otp_text.proofs.laws.reasons_are_read_back.Goals as goal

pub returns : goal.returns
returns c = reasons_back
