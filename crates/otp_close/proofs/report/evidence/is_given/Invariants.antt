use Rattle.std.proofs.Common.{◌<◌}
use Rattle.otp_core.specs.View.{stored_state}
use Rattle.otp_run.specs.Lists.{AllAt}
use Rattle.otp_close.specs.Tellings.{Gives}
use Rattle.otp_close.proofs.report.evidence.is_given.Given as goal

abbrev pub invariant-loop-table : goal.invariant-loop-table
invariant-loop-table l = AllAt (λ k t. k < l.table → ¬ (Gives l.fn.told.number l.fn.told.end (stored_state t.core))) l.fn.tables
