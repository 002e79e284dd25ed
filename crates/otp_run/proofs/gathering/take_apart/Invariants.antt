use Rattle.std.proofs.Common.{◌≡◌, ◌+◌, ◌++◌, length}
use Rattle.std.specs.Prelude.{vec_capacity, vec_len}
use Rattle.otp_run.proofs.gathering.take_apart.Given as goal

abbrev pub invariant-loop-way : goal.invariant-loop-way
invariant-loop-way g l =
    (l.ways.items ≡ l.fn.ways.items ++ l.yielded)
    × (vec_capacity l.ways ≡ vec_capacity l.fn.ways)
    × (vec_len l.ways ≡ vec_len l.fn.ways + length l.yielded)
    × (length l.yielded + length l.way-iterator.rest.items ≡ length l.fn.scheduler.others)
