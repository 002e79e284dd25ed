use Rattle.std.proofs.Common.{◌≡◌, ◌*◌, ◌≤◌, take}
use Rattle.std.specs.Prelude.{sum_by}
use Rattle.otp_run.specs.declared.scheduler.TheConstants.{SHARE_LIMIT}
use Rattle.otp_run.specs.Gathers.{begun_of, ended_of}
use Rattle.otp_run.proofs.gathering.total_share.Given as goal

abbrev pub invariant-loop-scheduler : goal.invariant-loop-scheduler
invariant-loop-scheduler g l =
    (l.begun ≡ sum_by begun_of (take l.scheduler-index l.schedulers))
    × (l.ended ≡ sum_by ended_of (take l.scheduler-index l.schedulers))
    × (l.begun ≤ l.scheduler-index * SHARE_LIMIT)
    × (l.ended ≤ l.scheduler-index * SHARE_LIMIT)
