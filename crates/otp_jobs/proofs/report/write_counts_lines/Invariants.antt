use Rattle.std.proofs.Common.{◌≡◌, ◌++◌, drop}
use Rattle.otp_jobs.specs.Reports.{counts_lines}
use Rattle.otp_jobs.proofs.report.write_counts_lines.Given as goal

abbrev pub invariant-loop-number : goal.invariant-loop-number
invariant-loop-number l = l.out.items ++ counts_lines l.number (drop l.number l.all) ≡ l.initial.out.items ++ counts_lines 0 l.all
