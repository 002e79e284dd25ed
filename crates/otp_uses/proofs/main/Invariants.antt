use Rattle.otp_uses.proofs.main.Given as goal

abbrev pub ghosts-exchange : goal.ghosts-exchange
ghosts-exchange g a = record { inbox = λ number. a.inbox }

abbrev pub ghosts-stop_from_outside : goal.ghosts-stop_from_outside
ghosts-stop_from_outside g a = record { words = a.words.words }
