use Rattle.otp_run.specs.Names.{numbered}
use Rattle.otp_thread_tests.proofs.queues.missing_scheduler_is_told_and_an_end_is_counted.Given as goal

abbrev pub ghosts-end_and_gather : goal.ghosts-end_and_gather
ghosts-end_and_gather g a = record { deque = numbered a.queue }
