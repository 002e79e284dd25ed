use Rattle.std.specs.Prelude.{length}
use Rattle.otp_command_run.proofs.outcome.awaited.+last_wait.Given as goal

abbrev pub decreases-last_wait : goal.decreases-last_wait
decreases-last_wait l = length l.seats.now
