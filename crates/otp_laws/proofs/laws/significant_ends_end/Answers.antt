use Rattle.otp_laws.proofs.Significant.{significant_ends_end_law}
use Rattle.otp_laws.proofs.laws.significant_ends_end.Goals as goal

pub returns : goal.returns
returns c = significant_ends_end_law
