use Rattle.otp_run.specs.Names.{numbered}
use Rattle.otp_thread_tests.proofs.queues.two_threads_take_each_process_once.Given as goal

abbrev pub ghosts-two_threads : goal.ghosts-two_threads
ghosts-two_threads g a = record { deque = numbered a.queue }
