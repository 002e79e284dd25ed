use Rattle.otp_run.specs.Names.{numbered-names}
use Rattle.otp_thread_tests.proofs.queues.missing_scheduler_is_told_and_an_end_is_counted.Goals as goal

pub end_and_gather-requires : goal.end_and_gather-requires
end_and_gather-requires g c = numbered-names _
