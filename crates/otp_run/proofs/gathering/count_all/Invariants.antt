use Rattle.std.proofs.Common.{◌≡◌, ◌<◌}
use Rattle.otp_run.specs.Lists.{AllAt}
use Rattle.otp_run.specs.Gathers.{IsCounted}
use Rattle.otp_run.proofs.gathering.count_all.Given as goal

abbrev pub invariant-loop-index : goal.invariant-loop-index
invariant-loop-index g l = (l.homes.items ≡ l.fn.homes.items) × AllAt (λ k o. k < l.index → IsCounted k o) l.homes.items
