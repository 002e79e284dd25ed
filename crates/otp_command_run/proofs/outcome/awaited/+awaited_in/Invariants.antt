use Rattle.std.specs.Prelude.{length}
use Rattle.otp_command_run.proofs.outcome.awaited.+awaited_in.Given as goal

abbrev pub decreases-awaited_in : goal.decreases-awaited_in
decreases-awaited_in l = length l.rows.now
