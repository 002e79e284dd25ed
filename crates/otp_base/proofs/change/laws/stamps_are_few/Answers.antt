use Rattle.otp_base.proofs.Same.{stamps_few}
use Rattle.otp_base.proofs.change.laws.stamps_are_few.Goals as goal

pub returns : goal.returns
returns c = stamps_few
