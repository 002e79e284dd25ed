use Rattle.std.proofs.Common.{◌≡◌, ◌++◌, drop}
use Rattle.std.specs.List.{flat_map}
use Rattle.otp_trial.specs.Starts.{start_in}
use Rattle.otp_trial.proofs.story.starts.put_starts.Given as goal

abbrev pub invariant-loop-order : goal.invariant-loop-order
invariant-loop-order l =
    l.starts.items ++ flat_map start_in (drop l.order-index l.orders) ≡ l.fn.starts.items ++ flat_map start_in l.orders
