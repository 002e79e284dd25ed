use Rattle.otp_rules.proofs.Answering.{answers_kept_law, answers_told_law}
use Rattle.otp_rules.proofs.laws.answers_are_told.Goals as goal

pub returns : goal.returns
returns c = record { told = answers_told_law; kept = answers_kept_law }
