use Rattle.std.proofs.Common.{◌≡◌, ◌≤◌, length, take, vec_len, vec_capacity}
use Rattle.otp_spec.proofs.supervisor.copy_specs.Given as goal

abbrev pub invariant-loop-spec : goal.invariant-loop-spec
invariant-loop-spec l =
    record {
      copied : l.list.items ≡ take l.spec-index l.specs;
      len : vec_len l.list ≡ l.spec-index;
      room : length l.specs ≤ vec_capacity l.list;
    }
