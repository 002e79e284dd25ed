use Rattle.otp_rules.proofs.Taken.{end_is_for_taken_from_empty, end_is_for_taken_law}
use Rattle.otp_rules.proofs.laws.end_is_for_what_was_taken.Goals as goal

pub returns : goal.returns
returns c = record { from_any = end_is_for_taken_law; from_empty = end_is_for_taken_from_empty }
