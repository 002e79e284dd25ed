use Rattle.std.proofs.Common.{◌<◌}
use Rattle.otp_run.specs.Lists.{AllAt}
use Rattle.otp_close.specs.Tellings.{EndedSo}
use Rattle.otp_close.proofs.report.evidence.all_ended_so.Given as goal

abbrev pub invariant-loop-place : goal.invariant-loop-place
invariant-loop-place l = AllAt (λ k x. k < l.place → EndedSo l.number l.reason x) l.fn.ends
