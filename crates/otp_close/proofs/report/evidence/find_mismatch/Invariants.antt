use Rattle.std.proofs.Common.{◌<◌}
use Rattle.otp_run.specs.Lists.{AllAt}
use Rattle.otp_close.specs.Tellings.{IsToldSo}
use Rattle.otp_close.proofs.report.evidence.find_mismatch.Given as goal

abbrev pub invariant-loop-table : goal.invariant-loop-table
invariant-loop-table l = AllAt (λ k t. k < l.table → IsToldSo l.fn.tables t) l.fn.tables
