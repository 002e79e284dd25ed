use Rattle.otp_laws.proofs.Stays.{up_keeps_children_law}
use Rattle.otp_laws.proofs.laws.up_keeps_children.Goals as goal

pub returns : goal.returns
returns c = up_keeps_children_law
