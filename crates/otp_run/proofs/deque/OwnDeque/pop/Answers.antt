use Rattle.std.proofs.Common.{arith}
use Rattle.otp_run.proofs.Steps.{takes}
use Rattle.otp_run.proofs.deque.OwnDeque.pop.Goals as goal

pub pop_as-found-requires-clause-fifo : goal.pop_as-found-requires-clause-fifo
pop_as-found-requires-clause-fifo g c = λ fifo. takes _ _ (let p = c.self.invariant.2 in let q = c.self.invariant.3 in omega arith)
