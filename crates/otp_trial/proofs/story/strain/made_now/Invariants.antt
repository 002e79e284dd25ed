use Rattle.std.proofs.Common.{◌≡◌, ◌+◌, ◌≤◌, ◌==◌, drop}
use Rattle.std.specs.Prelude.{count_by}
use Rattle.otp_trial.proofs.story.strain.made_now.Given as goal

abbrev pub invariant-loop-place : goal.invariant-loop-place
invariant-loop-place l =
    (l.count ≤ l.place) × (l.count + count_by (λ s. s == l.now) (drop l.place l.stamps.items) ≡ count_by (λ s. s == l.now) l.stamps.items)
