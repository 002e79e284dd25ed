use Rattle.std.proofs.Common.{◌≡◌, ◌+◌, ◌≤◌, ◌++◌, [], drop, vec_len, vec_capacity}
use Rattle.std.specs.List.{filter_map}
use Rattle.otp_rules.specs.Ends.{refused, refusal}
use Rattle.otp_machine.specs.WaitsInside.{whole_item}
use Rattle.otp_machine.proofs.stores.waits.refuse_items.Given as goal

abbrev pub invariant-loop-item : goal.invariant-loop-item
invariant-loop-item l =
    record {
      replies : l.replies.answers ++ filter_map (λ x. refused (whole_item x [])) (drop l.item-index l.items) ≡ l.fn.replies.answers ++ filter_map (λ x. refused (whole_item x [])) l.items;
      orders : l.orders.items ++ filter_map (λ x. refusal (whole_item x [])) (drop l.item-index l.items) ≡ l.fn.orders.items ++ filter_map (λ x. refusal (whole_item x [])) l.items;
      replies_room : l.fn.replies.room ≤ l.replies.room + l.item-index;
      orders_room : vec_len l.orders ≤ vec_len l.fn.orders + l.item-index;
      orders_kept : vec_capacity l.orders ≡ vec_capacity l.fn.orders;
    }
