use Rattle.otp_driver.proofs.Agree.{steps_agree}
use Rattle.otp_driver.proofs.laws.steps_agree.Goals as goal

pub returns : goal.returns
returns c = steps_agree
