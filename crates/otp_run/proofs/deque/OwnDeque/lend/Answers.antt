use Rattle.std.proofs.Common.{arith, ap}
use Rattle.otp_run.proofs.Steps.{cuts}
use Rattle.otp_run.proofs.deque.OwnDeque.lend.Goals as goal

pub another-pass-requires : goal.another-pass-requires
another-pass-requires g c = cuts _ _ (let p = c.self.invariant.3 in let q = c.requires in let r = ap (λ o. o.parts) c.self.view_is in omega arith)
