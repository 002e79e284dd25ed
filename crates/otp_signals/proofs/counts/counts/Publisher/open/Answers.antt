use Rattle.otp_signals.proofs.CountsMoves.{opens}
use Rattle.otp_signals.proofs.counts.counts.Publisher.open.Goals as goal

pub of_words-requires : goal.of_words-requires
of_words-requires c = opens c.word_of-word.result
