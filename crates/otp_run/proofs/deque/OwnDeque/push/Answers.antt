use Rattle.std.proofs.Common.{arith}
use Rattle.otp_run.proofs.Steps.{puts}
use Rattle.otp_run.proofs.deque.OwnDeque.push.Goals as goal

pub push_as-requires-clause-pushes : goal.push_as-requires-clause-pushes
push_as-requires-clause-pushes g c = puts _ _ _ (let p = c.self.invariant.2 in let q = c.self.invariant.3 in omega arith)
