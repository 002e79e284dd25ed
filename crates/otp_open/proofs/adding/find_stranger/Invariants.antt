use Rattle.std.proofs.Common.{ℕ, ◌<◌, length}
use Rattle.std.specs.Prelude.{All, IfSome, slice_get}
use Rattle.otp_draft.specs.Plans.{IsNear}
use Rattle.otp_open.specs.Adds.{IsWithin}
use Rattle.otp_open.proofs.adding.find_stranger.Given as goal

abbrev pub invariant-loop-place : goal.invariant-loop-place
invariant-loop-place g l =
    record {
      near : (k : ℕ) → k < l.place → IfSome (slice_get l.plans k) (λ plan. All IsNear plan.bodies.items);
      within : (k : ℕ) → k < l.place → IfSome (slice_get l.plans k) (IsWithin (length l.plans));
    }
