use Rattle.otp_laws.proofs.Ids.{ids_apart_law, ids_stay_apart_law}
use Rattle.otp_laws.proofs.laws.ids_differ.Goals as goal

pub returns : goal.returns
returns c = record { from_empty = ids_apart_law; from_any = ids_stay_apart_law }
