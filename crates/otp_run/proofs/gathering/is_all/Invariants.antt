use Rattle.std.proofs.Common.{◌≡◌, ◌<◌, length}
use Rattle.otp_run.specs.Lists.{AllAt}
use Rattle.otp_run.specs.Schedulers.{IsPlaced}
use Rattle.otp_run.proofs.gathering.is_all.Given as goal

abbrev pub invariant-loop-index : goal.invariant-loop-index
invariant-loop-index g l = AllAt (λ k s. k < l.index → (s.own.index ≡ k) × (s.count ≡ length l.fn.schedulers) × IsPlaced s) l.fn.schedulers
