use Rattle.otp_rules.proofs.Rated.{restart_rate_law}
use Rattle.otp_rules.proofs.Restarted.{restart_rate_from_empty, restarts_counted_law}
use Rattle.otp_rules.proofs.laws.restart_rate.Goals as goal

pub returns : goal.returns
returns c = record { counted = restarts_counted_law; from_any = restart_rate_law; from_empty = restart_rate_from_empty }
