use Rattle.std.proofs.Common.{ap, arith}
use Rattle.otp_run.specs.declared.rule.RunView.{RunView}
use Rattle.otp_run.proofs.Steps.{takes}
use Rattle.otp_run.proofs.deque.Victim.steal.Goals as goal

pub steal_as-requires-clause-takes : goal.steal_as-requires-clause-takes
steal_as-requires-clause-takes g c = takes _ _ (let p = ap (λ (v : RunView). v.parts) c.self.invariant.1 in omega arith)
