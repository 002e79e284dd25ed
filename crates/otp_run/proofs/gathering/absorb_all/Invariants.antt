use Rattle.std.proofs.Common.{◌≡◌, ◌<◌, ◌++◌, length}
use Rattle.otp_run.specs.Lists.{AllAt, Each}
use Rattle.otp_run.specs.Gathers.{IsAwaiting, Absorbed}
use Rattle.otp_run.proofs.gathering.absorb_all.Given as goal

abbrev pub invariant-loop-way : goal.invariant-loop-way
invariant-loop-way g l =
    (length l.homes.items ≡ length l.fn.homes.items)
    × AllAt (IsAwaiting l.way-iterator.rest.items) l.homes.items
    × Each (λ v. v.index < length l.fn.homes.items) l.way-iterator.rest.items
    × Absorbed l.fn.homes.items l.yielded l.homes.items
    × (l.yielded ++ l.way-iterator.rest.items ≡ l.fn.ways.items)
