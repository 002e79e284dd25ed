use Rattle.std.proofs.Common.{arith, refl, [], ◌∷◌, Contains}
use Rattle.otp_spec.specs.declared.flags.AutoShutdown.{AutoShutdown}
use Rattle.otp_spec.specs.declared.flags.AutoShutdown.TheVariants.{Never, AnySignificant, AllSignificant}
use Rattle.otp_spec.proofs.flags.AutoShutdown.all.Goals as goal

-- a case for each, so that one that is added has to be listed
pub returns : goal.returns
returns c = by
  where
    by : (each : AutoShutdown) → Contains (Never ∷ AnySignificant ∷ AllSignificant ∷ []) each
    by Never = (0, omega arith, refl)
    by AnySignificant = (1, omega arith, refl)
    by AllSignificant = (2, omega arith, refl)
