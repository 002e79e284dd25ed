use Rattle.std.proofs.Common.{not, ◌≡◌, ◌+◌, ◌≤◌, ◌++◌, length, vec_len, vec_capacity}
use Rattle.std.specs.List.{filter}
use Rattle.std.specs.Vec.Iter.{drain_items}
use Rattle.otp_rules.specs.Effects.{is_reply}
use Rattle.otp_machine.proofs.decisions.effects.move_orders.Given as goal

abbrev pub invariant-loop-effect : goal.invariant-loop-effect
invariant-loop-effect l =
    record {
      next : (goal.iterator-loop-effect).can_next l.effect-iterator;
      finite : (goal.iterator-loop-effect).is_finite l.effect-iterator;
      moved : l.list.items ++ filter (λ effect. not (is_reply effect)) (drain_items l.effect-iterator) ≡ l.fn.list.items ++ filter (λ effect. not (is_reply effect)) l.fn.orders.items;
      room : vec_len l.list + length (filter (λ effect. not (is_reply effect)) (drain_items l.effect-iterator)) ≤ vec_capacity l.list;
    }
