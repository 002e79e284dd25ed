use Rattle.std.proofs.Common.{◌≡◌, ◌+◌, ◌≤◌, ◌++◌, length}
use Rattle.std.specs.Prelude.{vec_capacity, vec_len}
use Rattle.otp_close.specs.Partings.{joined, ArePaired}
use Rattle.otp_close.proofs.parting.part_all.Given as goal

abbrev pub invariant-loop-hand : goal.invariant-loop-hand
invariant-loop-hand g l =
    record {
      hands : joined l.schedulers.items l.rests.items ++ l.hand-iterator.rest.items ≡ l.fn.hands.items;
      paired : ArePaired l.schedulers.items l.rests.items;
      many : length l.schedulers.items ≡ length l.rests.items;
      left : l.hand-iterator.rest.len ≡ length l.hand-iterator.rest.items;
      room : vec_len l.schedulers + length l.hand-iterator.rest.items ≤ vec_capacity l.schedulers;
      room_for_rests : vec_len l.rests + length l.hand-iterator.rest.items ≤ vec_capacity l.rests;
    }
