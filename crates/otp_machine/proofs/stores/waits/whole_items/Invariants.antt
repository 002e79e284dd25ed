use Rattle.std.proofs.Common.{◌≡◌, ◌-◌, ◌≤◌, count_by, length, take, vec_len, vec_capacity}
use Rattle.std.specs.VecDeque.{deque_len}
use Rattle.otp_machine.specs.WaitsInside.{is_call, whole_items}
use Rattle.otp_machine.proofs.stores.waits.whole_items.Given as goal

-- the items so far, each call among them with its own
abbrev pub invariant-loop-place : goal.invariant-loop-place
invariant-loop-place l =
    record {
      copied : l.list.items ≡ whole_items (take l.place l.items.items) l.calls.items;
      asked : l.asked ≡ count_by is_call (take l.place l.items.items);
      within : l.place ≤ length l.items.items;
      len : vec_len l.list ≡ l.place;
      room : deque_len l.items ≤ vec_capacity l.list;
    }

abbrev pub decreases-loop-place : goal.decreases-loop-place
decreases-loop-place l = deque_len l.items - l.place
