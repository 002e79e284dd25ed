use Rattle.otp_laws.proofs.Starts.{starts_of_children_from_law, starts_of_children_law}
use Rattle.otp_laws.proofs.laws.starts_are_of_children.Goals as goal

pub returns : goal.returns
returns c = record { from_empty = starts_of_children_law; from_any = starts_of_children_from_law }
