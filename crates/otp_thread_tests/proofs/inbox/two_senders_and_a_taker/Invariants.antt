use Rattle.otp_thread_tests.proofs.inbox.two_senders_and_a_taker.Given as goal

abbrev pub ghosts-exchange : goal.ghosts-exchange
ghosts-exchange g a = record { inbox = λ k. a.inbox }
