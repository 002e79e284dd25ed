use Rattle.otp_thread_tests.proofs.inbox.refused_letter_comes_back.Given as goal

abbrev pub ghosts-refuse : goal.ghosts-refuse
ghosts-refuse g a = record { inbox = λ k. a.inbox }
