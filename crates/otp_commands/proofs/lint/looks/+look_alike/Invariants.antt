use Rattle.std.proofs.Common.{length}
use Rattle.otp_commands.proofs.lint.looks.+look_alike.Given as goal

abbrev pub decreases-look_alike : goal.decreases-look_alike
decreases-look_alike l = length l.id.now
