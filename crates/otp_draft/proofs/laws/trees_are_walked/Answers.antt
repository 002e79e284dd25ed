use Rattle.otp_draft.proofs.Walks.{walked}
use Rattle.otp_draft.proofs.laws.trees_are_walked.Goals as goal

pub returns : goal.returns
returns g c = walked
