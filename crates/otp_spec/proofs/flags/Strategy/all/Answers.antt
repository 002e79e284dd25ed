use Rattle.std.proofs.Common.{arith, refl, [], ◌∷◌, Contains}
use Rattle.otp_spec.specs.declared.flags.Strategy.{Strategy}
use Rattle.otp_spec.specs.declared.flags.Strategy.TheVariants.{OneForOne, OneForAll, RestForOne, SimpleOneForOne}
use Rattle.otp_spec.proofs.flags.Strategy.all.Goals as goal

-- a case for each, so that one that is added has to be listed
pub returns : goal.returns
returns c = by
  where
    by : (each : Strategy) → Contains (OneForOne ∷ OneForAll ∷ RestForOne ∷ SimpleOneForOne ∷ []) each
    by OneForOne = (0, omega arith, refl)
    by OneForAll = (1, omega arith, refl)
    by RestForOne = (2, omega arith, refl)
    by SimpleOneForOne = (3, omega arith, refl)
