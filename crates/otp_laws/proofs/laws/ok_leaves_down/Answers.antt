use Rattle.otp_laws.proofs.Down.{ok_leaves_down_from_law, ok_leaves_down_law}
use Rattle.otp_laws.proofs.laws.ok_leaves_down.Goals as goal

pub returns : goal.returns
returns c = record { from_empty = ok_leaves_down_law; from_any = ok_leaves_down_from_law }
