use Rattle.otp_run.specs.Names.{numbered}
use Rattle.otp_thread_tests.proofs.queues.nothing_is_lost_where_growth_is_refused.Given as goal

abbrev pub ghosts-grow : goal.ghosts-grow
ghosts-grow g a = record { deque = numbered a.queue }
