use Rattle.otp_rules.proofs.EndedRows.{ended_has_no_rows_from_law, ended_has_no_rows_law}
use Rattle.otp_rules.proofs.lives.ended_has_no_rows.Goals as goal

pub returns : goal.returns
returns c = record { from_any = ended_has_no_rows_from_law; from_empty = ended_has_no_rows_law }
