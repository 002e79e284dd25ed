use Rattle.otp_run.specs.Names.{numbered-names}
use Rattle.otp_uses.proofs.countdown.run_all.Goals as goal

pub run_in-requires : goal.run_in-requires
run_in-requires g c = numbered-names _
