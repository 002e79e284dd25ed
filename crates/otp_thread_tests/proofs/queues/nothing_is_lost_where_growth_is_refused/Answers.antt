use Rattle.otp_run.specs.Names.{numbered-names}
use Rattle.otp_thread_tests.proofs.queues.nothing_is_lost_where_growth_is_refused.Goals as goal

pub grow-requires : goal.grow-requires
grow-requires g c = numbered-names _
