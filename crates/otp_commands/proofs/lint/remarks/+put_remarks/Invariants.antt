use Rattle.std.proofs.Common.{length}
use Rattle.otp_commands.proofs.lint.remarks.+put_remarks.Given as goal

abbrev pub decreases-put_remarks : goal.decreases-put_remarks
decreases-put_remarks l = length l.tables.now
