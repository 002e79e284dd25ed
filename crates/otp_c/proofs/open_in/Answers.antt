use Rattle.std.specs.Prelude.{Err, None, refl}
use Rattle.otp_c.proofs.open_in.Goals as goal

-- a tree for which there is no box is told as one for which there was no memory
pub returns-in-Ok : goal.returns-in-Ok
returns-in-Ok c = (Err None, tt, (refl, c.requires, refl))
