use Rattle.std.proofs.Common.{length}
use Rattle.otp_commands.proofs.lint.remarks.+put_copies.Given as goal

abbrev pub decreases-put_copies : goal.decreases-put_copies
decreases-put_copies l = length l.paths.now
