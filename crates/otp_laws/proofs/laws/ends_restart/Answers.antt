use Rattle.otp_laws.proofs.Owed.{ends_restart_law, ends_stay_law, owed_stays_law, owed_until_started_law, tries_restart_law}
use Rattle.otp_laws.proofs.laws.ends_restart.Goals as goal

pub returns : goal.returns
returns c = record { exit = ends_restart_law; other_exit = ends_stay_law; next_try = tries_restart_law; owed = owed_stays_law; until_started = owed_until_started_law }
