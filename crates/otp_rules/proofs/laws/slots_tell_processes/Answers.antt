use Rattle.otp_rules.proofs.Slots.{slots_tell_processes_law}
use Rattle.otp_rules.proofs.laws.slots_tell_processes.Goals as goal

pub returns : goal.returns
returns c = slots_tell_processes_law
