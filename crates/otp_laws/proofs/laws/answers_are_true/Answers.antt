use Rattle.otp_laws.proofs.Truths.{answers_true_from_law, answers_true_law}
use Rattle.otp_laws.proofs.laws.answers_are_true.Goals as goal

pub returns : goal.returns
returns c = record { from_empty = answers_true_law; from_any = answers_true_from_law }
