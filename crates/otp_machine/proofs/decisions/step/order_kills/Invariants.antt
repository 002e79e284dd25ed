use Rattle.std.proofs.Common.{◌≡◌, ◌+◌, ◌≤◌, ◌++◌, drop, vec_len, vec_capacity}
use Rattle.std.specs.List.{filter_map}
use Rattle.otp_rules.specs.Step.{kill_order, late_number}
use Rattle.otp_machine.proofs.decisions.step.order_kills.Given as goal

abbrev pub invariant-loop-row : goal.invariant-loop-row
invariant-loop-row l =
    record {
      ordered : l.orders.items ++ filter_map (λ row. kill_order row (late_number l.now row.state)) (drop l.row-index l.rows) ≡ l.fn.orders.items ++ filter_map (λ row. kill_order row (late_number l.now row.state)) l.rows;
      len : vec_len l.orders ≤ vec_len l.fn.orders + l.row-index;
      capacity : vec_capacity l.orders ≡ vec_capacity l.fn.orders;
    }
