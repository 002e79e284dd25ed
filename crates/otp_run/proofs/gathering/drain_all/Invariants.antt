use Rattle.std.proofs.Common.{◌≡◌, ◌+◌, ◌≤◌}
use Rattle.std.specs.Prelude.{vec_capacity, vec_len}
use Rattle.otp_run.specs.Lists.{Each}
use Rattle.otp_run.specs.Gathers.{IsCounted, DrainedInto, put_count, taken_count}
use Rattle.otp_run.proofs.gathering.drain_all.Given as goal

abbrev pub invariant-loop-home : goal.invariant-loop-home
invariant-loop-home g l =
    Each (IsCounted 0) l.home-iterator.rest.items
    × (vec_capacity l.left ≡ vec_capacity l.fn.left)
    × (put_count l.home-iterator.rest.items + vec_len l.left ≤ taken_count l.home-iterator.rest.items + vec_capacity l.left)
    × DrainedInto l.yielded l.fn.left.items l.left.items
