use Rattle.std.proofs.Common.{length}
use Rattle.otp_commands.proofs.lint.below.+stop_in.Given as goal

abbrev pub decreases-stop_in : goal.decreases-stop_in
decreases-stop_in l = length l.children.now
