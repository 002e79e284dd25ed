use Rattle.std.proofs.Common.{[], refl}
use Rattle.otp_commands.proofs.Untold.{appends_nothing}
use Rattle.otp_commands.proofs.program.end_of_fault.Goals as goal

pub returns-in-Topic-clause-done : goal.returns-in-Topic-clause-done
returns-in-Topic-clause-done c = λ seen. (refl, [], appends_nothing seen.output.bytes)
