use Rattle.otp_run.proofs.Steps.{counts}
use Rattle.otp_run.proofs.deque.OwnDeque.count.Goals as goal

pub len_as-requires : goal.len_as-requires
len_as-requires g c = counts _ _
