use Rattle.std.proofs.Common.{length}
use Rattle.otp_commands.proofs.lint.below.+below_at.Given as goal

abbrev pub decreases-below_at : goal.decreases-below_at
decreases-below_at l = length l.nested.now
