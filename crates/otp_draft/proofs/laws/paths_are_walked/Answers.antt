use Rattle.std.proofs.Common.{[]}
use Rattle.otp_draft.proofs.Led.{led}
use Rattle.otp_draft.proofs.laws.paths_are_walked.Goals as goal

pub returns : goal.returns
returns g c = λ d. led d [] []
