use Rattle.std.proofs.Common.{◌<◌}
use Rattle.otp_run.specs.Lists.{AllAt}
use Rattle.otp_close.specs.Tellings.{IsEndUnder}
use Rattle.otp_close.proofs.report.evidence.gives.Given as goal

abbrev pub invariant-loop-place : goal.invariant-loop-place
invariant-loop-place l = AllAt (λ k x. k < l.place → ¬ (IsEndUnder l.number l.fn.end x)) l.fn.ends
