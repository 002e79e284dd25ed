use Rattle.otp_laws.proofs.Numbered.{processes_stay_gone_from_law, processes_stay_gone_law}
use Rattle.otp_laws.proofs.laws.processes_stay_gone.Goals as goal

pub returns : goal.returns
returns c = record { from_empty = processes_stay_gone_law; from_any = processes_stay_gone_from_law }
