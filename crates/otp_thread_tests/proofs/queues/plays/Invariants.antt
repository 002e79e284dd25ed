use Rattle.otp_run.specs.Names.{numbered}
use Rattle.otp_thread_tests.proofs.queues.plays.Given as goal

abbrev pub ghosts-acts_in : goal.ghosts-acts_in
ghosts-acts_in g a = record { deque = numbered a.queue }
