use Rattle.otp_laws.proofs.Notes.{notes_count_once_from_law, notes_count_once_law, unawaited_changes_none_from_law, unawaited_changes_none_law}
use Rattle.otp_laws.proofs.laws.notes_count_once.Goals as goal

pub returns : goal.returns
returns c = record { unawaited = unawaited_changes_none_law; unawaited_from_any = unawaited_changes_none_from_law; once = notes_count_once_law; once_from_any = notes_count_once_from_law }
