use Rattle.otp_laws.proofs.Deletes.{deletes_undefined_from_law, deletes_undefined_law}
use Rattle.otp_laws.proofs.laws.deletes_undefined.Goals as goal

pub returns : goal.returns
returns c = record { from_empty = deletes_undefined_law; from_any = deletes_undefined_from_law }
