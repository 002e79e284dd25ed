use Rattle.otp_thread_tests.proofs.signals.numbers_of_four_threads.Given as goal

abbrev pub ghosts-numbers_in : goal.ghosts-numbers_in
ghosts-numbers_in g a = record { words = a.opened.words }
