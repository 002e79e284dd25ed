use Rattle.otp_text.proofs.Words.{restart_back, type_back, bool_back}
use Rattle.otp_text.proofs.laws.words_are_read_back.Goals as goal

pub returns : goal.returns
returns c = (restart_back, type_back, bool_back)
