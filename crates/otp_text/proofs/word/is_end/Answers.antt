use Rattle.std.proofs.Common.{sym}
use Rattle.otp_text.proofs.Cuts.{line_has_words}
use Rattle.otp_text.proofs.word.is_end.Goals as goal

pub returns-in-Some : goal.returns-in-Some
returns-in-Some c = rw c.in-Some.is (sym (line_has_words c.in-Some.field-0.now))
