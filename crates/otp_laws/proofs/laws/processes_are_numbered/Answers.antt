use Rattle.otp_laws.proofs.Numbered.{processes_numbered_from_law, processes_numbered_law}
use Rattle.otp_laws.proofs.laws.processes_are_numbered.Goals as goal

pub returns : goal.returns
returns c = record { from_empty = processes_numbered_law; from_any = processes_numbered_from_law }
