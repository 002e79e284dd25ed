use Rattle.otp_rules.proofs.Shown.{end_evidence_law, end_evidence_from_empty}
use Rattle.otp_rules.proofs.laws.end_evidence.Goals as goal

pub returns : goal.returns
returns c = record { from_any = end_evidence_law; from_empty = end_evidence_from_empty }
