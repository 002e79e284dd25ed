use Rattle.otp_driver.proofs.Nexts.{nexts_run}
use Rattle.otp_driver.proofs.laws.nexts_run.Goals as goal

pub returns : goal.returns
returns c = nexts_run
