use Rattle.otp_inbox.proofs.inbox.Inbox.credit.Given as goal

abbrev pub ghosts-pass_on : goal.ghosts-pass_on
ghosts-pass_on g a = record { shares = record { starts = a._starts; turns = a._turns } }
