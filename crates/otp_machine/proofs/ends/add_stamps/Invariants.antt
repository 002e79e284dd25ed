use Rattle.std.proofs.Common.{◌≡◌, ◌+◌, ◌++◌, take, vec_len, vec_capacity}
use Rattle.otp_machine.proofs.ends.add_stamps.Given as goal

abbrev pub invariant-loop-stamp : goal.invariant-loop-stamp
invariant-loop-stamp l =
    record {
      copied : l.list.items ≡ l.fn.list.items ++ take l.stamp-index l.stamps;
      len : vec_len l.list ≡ vec_len l.fn.list + l.stamp-index;
      room : vec_capacity l.list ≡ vec_capacity l.fn.list;
    }
