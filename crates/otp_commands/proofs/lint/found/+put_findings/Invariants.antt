use Rattle.std.proofs.Common.{length}
use Rattle.otp_commands.proofs.lint.found.+put_findings.Given as goal

abbrev pub decreases-put_findings : goal.decreases-put_findings
decreases-put_findings l = length l.remarks.now
