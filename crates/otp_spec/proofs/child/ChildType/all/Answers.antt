use Rattle.std.proofs.Common.{arith, refl, [], ◌∷◌, Contains}
use Rattle.otp_spec.specs.declared.child.ChildType.{ChildType}
use Rattle.otp_spec.specs.declared.child.ChildType.TheVariants.{Worker, Supervisor}
use Rattle.otp_spec.proofs.child.ChildType.all.Goals as goal

-- a case for each, so that one that is added has to be listed
pub returns : goal.returns
returns c = by
  where
    by : (each : ChildType) → Contains (Worker ∷ Supervisor ∷ []) each
    by Worker = (0, omega arith, refl)
    by Supervisor = (1, omega arith, refl)
