use Rattle.std.proofs.Common.{length}
use Rattle.otp_commands.proofs.lint.below.+below_in.Given as goal

abbrev pub decreases-below_in : goal.decreases-below_in
decreases-below_in l = length l.tables.now
