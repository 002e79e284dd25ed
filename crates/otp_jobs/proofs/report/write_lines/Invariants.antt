use Rattle.std.proofs.Common.{◌≡◌, ◌++◌, drop}
use Rattle.otp_jobs.specs.Reports.{table_lines}
use Rattle.otp_jobs.proofs.report.write_lines.Given as goal

abbrev pub invariant-loop-number : goal.invariant-loop-number
invariant-loop-number l = l.out.items ++ table_lines l.number (drop l.number l.lines) ≡ l.initial.out.items ++ table_lines 0 l.lines
