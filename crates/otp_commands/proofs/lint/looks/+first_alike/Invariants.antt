use Rattle.std.proofs.Common.{length}
use Rattle.otp_commands.proofs.lint.looks.+first_alike.Given as goal

abbrev pub decreases-first_alike : goal.decreases-first_alike
decreases-first_alike l = length l.children.now
