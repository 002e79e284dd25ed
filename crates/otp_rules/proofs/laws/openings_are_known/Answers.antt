use Rattle.otp_rules.proofs.Known.{openings_known_law}
use Rattle.otp_rules.proofs.laws.openings_are_known.Goals as goal

pub returns : goal.returns
returns c = openings_known_law
