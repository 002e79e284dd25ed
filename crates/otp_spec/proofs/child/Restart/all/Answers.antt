use Rattle.std.proofs.Common.{arith, refl, [], ◌∷◌, Contains}
use Rattle.otp_spec.specs.declared.child.Restart.{Restart}
use Rattle.otp_spec.specs.declared.child.Restart.TheVariants.{Permanent, Transient, Temporary}
use Rattle.otp_spec.proofs.child.Restart.all.Goals as goal

-- a case for each, so that one that is added has to be listed
pub returns : goal.returns
returns c = by
  where
    by : (each : Restart) → Contains (Permanent ∷ Transient ∷ Temporary ∷ []) each
    by Permanent = (0, omega arith, refl)
    by Transient = (1, omega arith, refl)
    by Temporary = (2, omega arith, refl)
