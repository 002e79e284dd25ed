use Rattle.std.proofs.Common.{◌≡◌, ◌++◌, drop}
use Rattle.std.specs.List.{filter_map}
use Rattle.otp_costs.specs.Costs.{stopped_by}
use Rattle.otp_costs.proofs.limits.cost.put_stopped.Given as goal

abbrev pub invariant-loop-order : goal.invariant-loop-order
invariant-loop-order l =
    l.names ++ filter_map (stopped_by l.spec) (drop l.order-index l.orders) ≡ l.fn.names ++ filter_map (stopped_by l.spec) l.orders
