use Rattle.std.proofs.Common.{◌<◌}
use Rattle.otp_run.specs.Lists.{AllAt}
use Rattle.otp_close.proofs.report.evidence.has_checkpoint.Given as goal

abbrev pub invariant-loop-table : goal.invariant-loop-table
invariant-loop-table l = AllAt (λ k t. k < l.table → ¬ (0 < t.core.cut)) l.fn.tables
