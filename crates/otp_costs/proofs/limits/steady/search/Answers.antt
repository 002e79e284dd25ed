use Rattle.otp_costs.proofs.Steadies.{apart}
use Rattle.otp_costs.proofs.limits.steady.search.Goals as goal

pub returns-clause-ok : goal.returns-clause-ok
returns-clause-ok c =
    apart c.args.clock c.args.supervisor.now.flags c.args.supervisor.now.specs c.args.id.now c.halving.bounds.short c.halving.bounds.long c.halving.invariant.order c.halving-test.false
    c.halving.invariant.falls c.halving.invariant.lasts
