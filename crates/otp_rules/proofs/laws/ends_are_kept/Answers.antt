use Rattle.otp_rules.proofs.Ended.{ends_carried_law, ends_kept_from_empty, ends_kept_law}
use Rattle.otp_rules.proofs.laws.ends_are_kept.Goals as goal

pub returns : goal.returns
returns c = record { from_any = ends_kept_law; from_empty = ends_kept_from_empty; carried = ends_carried_law }
