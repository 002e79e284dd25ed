use Rattle.otp_rules.proofs.Lasting.{end_comes_last_from_law, end_comes_last_law, processes_stay_from_law, processes_stay_law}
use Rattle.otp_rules.proofs.lives.processes_stay.Goals as goal

pub returns : goal.returns
returns c = record { stay_from_any = processes_stay_from_law; end_from_any = end_comes_last_from_law; stay = processes_stay_law; end = end_comes_last_law }
