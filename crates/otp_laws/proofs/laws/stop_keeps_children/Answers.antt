use Rattle.otp_laws.proofs.Stays.{stop_keeps_children_law}
use Rattle.otp_laws.proofs.laws.stop_keeps_children.Goals as goal

pub returns : goal.returns
returns c = stop_keeps_children_law
