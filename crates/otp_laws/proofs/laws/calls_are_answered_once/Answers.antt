use Rattle.otp_laws.proofs.Once.{calls_answered_once_from_law, calls_answered_once_law}
use Rattle.otp_laws.proofs.laws.calls_are_answered_once.Goals as goal

pub returns : goal.returns
returns c = record { from_empty = calls_answered_once_law; from_any = calls_answered_once_from_law }
