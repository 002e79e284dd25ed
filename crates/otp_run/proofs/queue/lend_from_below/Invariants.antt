use Rattle.std.proofs.Common.{◌≡◌, ◌+◌, ◌-◌, ◌++◌, length, map, min}
use Rattle.otp_run.specs.Lists.{AllAt}
use Rattle.otp_run.specs.Schedulers.{numbers_from}
use Rattle.otp_run.specs.Deques.{fresh_victim}
use Rattle.otp_run.specs.Opens.{HasLent}
use Rattle.otp_run.proofs.queue.lend_from_below.Given as goal

abbrev pub invariant-loop-index : goal.invariant-loop-index
invariant-loop-index g l =
    (length l.schedulers.items ≡ length l.fn.schedulers.items)
    × AllAt (HasLent (length l.fn.schedulers.items) l.fn.thief (λ k. min 1 (k - l.fn.thief) + min 1 (l.index - k))) l.schedulers.items
    × (l.ways.items ≡ l.fn.ways.items ++ map fresh_victim (numbers_from 0 l.index))
