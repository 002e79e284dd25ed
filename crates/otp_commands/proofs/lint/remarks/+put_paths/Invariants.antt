use Rattle.std.proofs.Common.{length}
use Rattle.otp_commands.proofs.lint.remarks.+put_paths.Given as goal

abbrev pub decreases-put_paths : goal.decreases-put_paths
decreases-put_paths l = length l.places.now
