use Rattle.otp_driver.proofs.Runs.{runs_agree}
use Rattle.otp_driver.proofs.laws.runs_agree.Goals as goal

pub returns : goal.returns
returns c = runs_agree
