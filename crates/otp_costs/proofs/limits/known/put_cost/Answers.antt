use Rattle.std.specs.Prelude.{is_ok}
use Rattle.otp_costs.proofs.CostsKnown.{cost_put}
use Rattle.otp_costs.proofs.limits.known.put_cost.Goals as goal

pub returns : goal.returns
returns c =
    cost_put c.args.supervisor.now.flags c.args.supervisor.now.specs c.args.costs.now.items c.push.new.self.items c.args.id.now c.args.cost (is_ok c.push.result) c.requires.known
    c.requires.cost c.push.ensures.items
