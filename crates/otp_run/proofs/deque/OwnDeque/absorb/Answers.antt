use Rattle.std.proofs.Common.{arith}
use Rattle.otp_run.proofs.Steps.{merges}
use Rattle.otp_run.proofs.deque.OwnDeque.absorb.Goals as goal

pub absorb-requires-clause-rule : goal.absorb-requires-clause-rule
absorb-requires-clause-rule g c = merges _ _ _ _ (let p = c.self.invariant.2 in let q = c.self.invariant.3 in omega arith)
