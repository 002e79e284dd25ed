use Rattle.std.proofs.Common.{◌<◌}
use Rattle.otp_run.specs.Lists.{AllAt}
use Rattle.otp_core.specs.View.{stored_state}
use Rattle.otp_close.specs.Tellings.{Agrees}
use Rattle.otp_close.proofs.report.evidence.all_agree.Given as goal

abbrev pub invariant-loop-table : goal.invariant-loop-table
invariant-loop-table l = AllAt (λ k t. k < l.table → Agrees (stored_state t.core) l.number l.reason) l.fn.tables
