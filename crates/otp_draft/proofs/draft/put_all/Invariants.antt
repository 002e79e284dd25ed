use Rattle.std.proofs.Common.{◌≡◌, ◌+◌, ◌≤◌, ◌++◌, length}
use Rattle.std.specs.Prelude.{vec_capacity, vec_len}
use Rattle.otp_draft.proofs.draft.put_all.Given as goal

abbrev pub invariant-loop-item : goal.invariant-loop-item
invariant-loop-item g l =
    record {
      left : l.item-iterator.rest.len ≡ length l.item-iterator.rest.items;
      room : vec_len l.list + length l.item-iterator.rest.items ≤ vec_capacity l.list;
      whole : l.list.items ++ l.item-iterator.rest.items ≡ l.initial.list.items ++ l.fn.more.items;
    }
