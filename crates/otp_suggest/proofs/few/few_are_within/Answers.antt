use Rattle.otp_suggest.proofs.FewStamps.{few_law}
use Rattle.otp_suggest.proofs.few.few_are_within.Goals as goal

pub returns : goal.returns
returns c = few_law
