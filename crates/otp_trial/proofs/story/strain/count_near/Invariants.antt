use Rattle.std.proofs.Common.{◌≡◌, ◌+◌, ◌-◌, ◌*◌, ◌≤◌, ◌&&◌, drop}
use Rattle.std.specs.Prelude.{count_by, nat_le}
use Rattle.otp_trial.proofs.story.strain.count_near.Given as goal

abbrev pub invariant-loop-place : goal.invariant-loop-place
invariant-loop-place l =
    (l.count ≤ l.place)
    × (l.count + count_by (λ stamp. nat_le stamp l.now && nat_le (l.now - stamp) (1000 * l.period + 999)) (drop l.place l.stamps.items) ≡ count_by (λ stamp. nat_le stamp l.now && nat_le (l.now - stamp) (1000 * l.period + 999)) l.stamps.items)
