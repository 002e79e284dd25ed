use Rattle.otp_run.specs.Names.{numbered-names}
use Rattle.otp_thread_tests.proofs.queues.two_threads_take_each_process_once.Goals as goal

pub two_threads-requires-after_bounds : goal.two_threads-requires-after_bounds
two_threads-requires-after_bounds g c = λ κs. numbered-names _
