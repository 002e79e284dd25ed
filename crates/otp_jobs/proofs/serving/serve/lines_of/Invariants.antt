use Rattle.std.proofs.Common.{◌≡◌, map, take}
use Rattle.otp_jobs.specs.Runs.{line_of}
use Rattle.otp_jobs.proofs.serving.serve.lines_of.Given as goal

abbrev pub invariant-loop-table : goal.invariant-loop-table
invariant-loop-table l = l.lines.items ≡ map line_of (take l.table-index l.tables)
