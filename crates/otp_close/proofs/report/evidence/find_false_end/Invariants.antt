use Rattle.std.proofs.Common.{◌<◌}
use Rattle.otp_run.specs.Lists.{AllAt}
use Rattle.otp_close.specs.Tellings.{IsBorneOut}
use Rattle.otp_close.proofs.report.evidence.find_false_end.Given as goal

abbrev pub invariant-loop-place : goal.invariant-loop-place
invariant-loop-place l = AllAt (λ k x. k < l.place → IsBorneOut l.fn.tables x) l.fn.ends
