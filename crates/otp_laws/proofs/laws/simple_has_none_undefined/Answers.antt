use Rattle.otp_laws.proofs.Simple.{simple_has_none_undefined_law}
use Rattle.otp_laws.proofs.laws.simple_has_none_undefined.Goals as goal

pub returns : goal.returns
returns c = simple_has_none_undefined_law
