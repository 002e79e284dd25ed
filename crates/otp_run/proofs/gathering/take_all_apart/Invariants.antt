use Rattle.std.proofs.Common.{◌≡◌, ◌+◌, ◌*◌, ◌≤◌, ◌++◌, length, map}
use Rattle.std.specs.Prelude.{vec_capacity, vec_len}
use Rattle.otp_run.specs.Lists.{Each}
use Rattle.otp_run.specs.Rule.{all_parts}
use Rattle.otp_run.specs.Schedulers.{IsPlaced}
use Rattle.otp_run.specs.Gathers.{IsKept, own_of, all_ways}
use Rattle.otp_run.proofs.gathering.take_all_apart.Given as goal

abbrev pub invariant-loop-scheduler : goal.invariant-loop-scheduler
invariant-loop-scheduler g l =
    Each IsPlaced l.scheduler-iterator.rest.items
    × Each IsKept l.yielded
    × (l.homes.items ≡ l.fn.homes.items ++ map own_of l.yielded)
    × (l.ways.items ≡ l.fn.ways.items ++ all_ways l.yielded)
    × (vec_len l.homes + length l.scheduler-iterator.rest.items ≤ vec_capacity l.homes)
    × (vec_len l.ways + all_parts * length l.scheduler-iterator.rest.items ≤ vec_capacity l.ways)
