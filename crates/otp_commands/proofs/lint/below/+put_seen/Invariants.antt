use Rattle.std.proofs.Common.{length}
use Rattle.otp_commands.proofs.lint.below.+put_seen.Given as goal

abbrev pub decreases-put_seen : goal.decreases-put_seen
decreases-put_seen l = length l.specs.now
