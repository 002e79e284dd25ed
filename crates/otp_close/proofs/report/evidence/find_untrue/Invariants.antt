use Rattle.std.proofs.Common.{◌<◌}
use Rattle.otp_run.specs.Lists.{AllAt}
use Rattle.otp_close.specs.Tellings.{IsSo}
use Rattle.otp_close.proofs.report.evidence.find_untrue.Given as goal

abbrev pub invariant-loop-place : goal.invariant-loop-place
invariant-loop-place l = AllAt (λ k e. k < l.place → IsSo l.fn.tables e) l.fn.history.events
