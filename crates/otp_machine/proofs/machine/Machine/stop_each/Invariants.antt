use Rattle.std.proofs.Common.{◌≡◌, ◌+◌, ◌≤◌, drop, length, vec_len, vec_capacity}
use Rattle.otp_rules.specs.Stops.{stop_each}
use Rattle.otp_machine.specs.Seen.{outcome_of}
use Rattle.otp_machine.proofs.machine.Machine.stop_each.Given as goal

abbrev pub invariant-loop-number : goal.invariant-loop-number
invariant-loop-number l =
    record {
      leads : stop_each (drop l.number-index l.numbers) (outcome_of l.self) ≡ stop_each l.numbers (outcome_of l.fn.self);
      rest : l.self ≡ record l.fn.self { rows = l.self.rows; waiting = l.self.waiting; orders = l.self.orders };
      orders : vec_len l.self.orders ≤ vec_len l.fn.self.orders + l.number-index;
      capacity : vec_capacity l.self.orders ≡ vec_capacity l.fn.self.orders;
      waiting : length l.self.waiting.items ≤ length l.fn.self.waiting.items;
    }
