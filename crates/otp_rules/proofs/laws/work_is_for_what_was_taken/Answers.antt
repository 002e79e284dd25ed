use Rattle.otp_rules.proofs.Taken.{work_is_for_taken_from_empty, work_is_for_taken_law}
use Rattle.otp_rules.proofs.laws.work_is_for_what_was_taken.Goals as goal

pub returns : goal.returns
returns c = record { from_any = work_is_for_taken_law; from_empty = work_is_for_taken_from_empty }
