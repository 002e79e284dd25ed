use Rattle.std.specs.Prelude.{length}
use Rattle.otp_command_run.proofs.outcome.life.+write_all_lives.Given as goal

abbrev pub decreases-write_all_lives : goal.decreases-write_all_lives
decreases-write_all_lives l = length l.seats.now
