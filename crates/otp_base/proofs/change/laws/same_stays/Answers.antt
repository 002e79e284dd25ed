use Rattle.otp_base.proofs.Same.{same_stays, stamps_stay}
use Rattle.otp_base.proofs.change.laws.same_stays.Goals as goal

pub returns : goal.returns
returns c = record { state = same_stays; stamps = stamps_stay }
