use Rattle.std.proofs.Common.{◌≡◌, ◌+◌, ◌≤◌, ◌++◌, length}
use Rattle.std.specs.Prelude.{vec_capacity, vec_len}
use Rattle.otp_close.specs.Partings.{joined, ArePaired}
use Rattle.otp_close.proofs.parting.rejoin_all.Given as goal

abbrev pub invariant-loop-scheduler : goal.invariant-loop-scheduler
invariant-loop-scheduler g l =
    record {
      paired : ArePaired l.scheduler-iterator.rest.items l.rests.rest.items;
      hands : l.hands.items ++ joined l.scheduler-iterator.rest.items l.rests.rest.items ≡ joined l.fn.schedulers.items l.fn.rests.items;
      left : l.scheduler-iterator.rest.len ≡ length l.scheduler-iterator.rest.items;
      left_too : l.rests.rest.len ≡ length l.rests.rest.items;
      room : vec_len l.hands + length l.scheduler-iterator.rest.items ≤ vec_capacity l.hands;
    }
