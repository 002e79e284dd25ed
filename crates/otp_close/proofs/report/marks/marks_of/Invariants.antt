use Rattle.std.proofs.Common.{◌<◌}
use Rattle.otp_core.specs.View.{stored_state}
use Rattle.otp_run.specs.Lists.{AllAt}
use Rattle.otp_close.specs.Marks.{AreMarked}
use Rattle.otp_close.specs.declared.report.report.TableReport.{TableReport}
use Rattle.otp_close.proofs.report.marks.marks_of.Given as goal

abbrev pub invariant-loop-table : goal.invariant-loop-table
invariant-loop-table l = AllAt (λ k (t : TableReport). k < l.table → AreMarked l.marks (stored_state t.core)) l.fn.tables
