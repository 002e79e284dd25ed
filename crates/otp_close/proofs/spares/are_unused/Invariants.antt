use Rattle.std.proofs.Common.{ℕ, ◌<◌, ◌≤◌}
use Rattle.std.specs.Prelude.{IfSome, slice_get}
use Rattle.otp_close.specs.Spares.{IsUnused}
use Rattle.otp_close.proofs.spares.are_unused.Given as goal

abbrev pub invariant-loop-place : goal.invariant-loop-place
invariant-loop-place l = (k : ℕ) → l.from ≤ k → k < l.place → IfSome (slice_get l.tables k) IsUnused
