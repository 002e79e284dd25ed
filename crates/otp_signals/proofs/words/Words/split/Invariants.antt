use Rattle.otp_signals.proofs.words.Words.split.Given as goal

abbrev pub ghosts-cut : goal.ghosts-cut
ghosts-cut g a = record { from = a._from; to = a._to; quota = a._quota }
