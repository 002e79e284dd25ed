use Rattle.std.proofs.Common.{ap, sym}
use Rattle.crossbeam_deque.specs.Handles.{worker_view}
use Rattle.otp_run.proofs.Drains.{of_one}
use Rattle.otp_run.proofs.deque.OwnDeque.drain_into.Goals as goal

pub returns-clause-drained : goal.returns-clause-drained
returns-clause-drained g c = of_one _ (worker_view c.self.inside.worker) _ _ (ap (λ o. o.puts) (sym c.self.view_is)) (ap (λ o. o.taken) (sym c.self.view_is)) c.pop_all.ensures.popped
