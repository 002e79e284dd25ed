use Rattle.otp_thread_tests.proofs.signals.signals_of_two_numbers.Given as goal

abbrev pub ghosts-signals_in : goal.ghosts-signals_in
ghosts-signals_in g a = record { words = a.opened.words }
