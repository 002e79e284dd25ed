use Rattle.otp_base.proofs.Slots.{slots_stay}
use Rattle.otp_base.proofs.change.laws.slots_stay.Goals as goal

pub returns : goal.returns
returns c = slots_stay
