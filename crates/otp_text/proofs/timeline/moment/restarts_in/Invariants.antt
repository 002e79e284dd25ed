use Rattle.std.proofs.Common.{◌≡◌, ◌+◌, ◌≤◌, drop}
use Rattle.otp_window.specs.Period.{is_in_period}
use Rattle.std.specs.Prelude.{count_by}
use Rattle.otp_text.proofs.timeline.moment.restarts_in.Given as goal

abbrev pub invariant-loop-place : goal.invariant-loop-place
invariant-loop-place l =
    (l.count ≤ l.place) × (l.count + count_by (is_in_period l.period l.now) (drop l.place l.stamps.items) ≡ count_by (is_in_period l.period l.now) l.stamps.items)
