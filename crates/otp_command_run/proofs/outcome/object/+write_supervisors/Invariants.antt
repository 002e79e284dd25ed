use Rattle.std.specs.Prelude.{length}
use Rattle.otp_command_run.proofs.outcome.object.+write_supervisors.Given as goal

abbrev pub decreases-write_supervisors : goal.decreases-write_supervisors
decreases-write_supervisors l = length l.seats.now
