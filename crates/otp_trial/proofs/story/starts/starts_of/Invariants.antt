use Rattle.std.proofs.Common.{◌≡◌, ◌+◌, ◌≤◌, drop}
use Rattle.std.specs.Prelude.{count_by}
use Rattle.otp_trial.specs.Starts.{is_of_id}
use Rattle.otp_trial.proofs.story.starts.starts_of.Given as goal

abbrev pub invariant-loop-started : goal.invariant-loop-started
invariant-loop-started l =
    (l.count ≤ l.started-index) × (l.count + count_by (is_of_id l.id) (drop l.started-index l.starts) ≡ count_by (is_of_id l.id) l.starts)
