use Rattle.std.proofs.Common.{ℕ, ◌<◌}
use Rattle.std.specs.Prelude.{IfSome, slice_get}
use Rattle.otp_open.specs.Plans.{HasBodies}
use Rattle.otp_open.proofs.adding.find_lacking.Given as goal

abbrev pub invariant-loop-place : goal.invariant-loop-place
invariant-loop-place g l = (k : ℕ) → k < l.place → IfSome (slice_get l.plans k) HasBodies
