use Rattle.otp_run.specs.Names.{numbered-names}
use Rattle.otp_thread_tests.proofs.queues.plays.Goals as goal

pub acts_in-requires : goal.acts_in-requires
acts_in-requires g c = numbered-names _
