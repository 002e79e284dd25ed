use Rattle.otp_rules.proofs.Alive.{processes_lived_from_law, processes_lived_law}
use Rattle.otp_rules.proofs.lives.processes_lived.Goals as goal

pub returns : goal.returns
returns c = record { from_any = processes_lived_from_law; from_empty = processes_lived_law }
