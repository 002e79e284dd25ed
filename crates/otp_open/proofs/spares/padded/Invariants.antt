use Rattle.std.proofs.Common.{◌≡◌, ◌+◌, ◌≤◌, length}
use Rattle.std.specs.Prelude.{vec_capacity}
use Rattle.otp_open.specs.Spares.{ArePadded}
use Rattle.otp_open.proofs.spares.padded.Given as goal

abbrev pub invariant-loop : goal.invariant-loop
invariant-loop g l =
    record {
      padded : ArePadded (length l.fn.plans.items + l.counter) l.fn.plans.items l.all.items;
      count : length l.all.items ≡ length l.fn.plans.items + l.counter;
      room : length l.fn.plans.items + l.fn.spares ≤ vec_capacity l.all;
    }
