-- A tree that grows and was not run. (own)
use Rattle.std.specs.Prelude.{◌≡◌, ℕ, take}
use Rattle.otp_tree.specs.declared.whole.RunFault.{RunFault}
use Rattle.otp_tree.specs.declared.whole.RunFault.TheVariants as run

module _ {J S : Type 0} where
  -- one fault is another, with the first so many of its plans
  abbrev pub IsCutShort : ℕ → RunFault J S → RunFault J S → Type 0
  IsCutShort known (run.Open back) (run.Open short) = (short.fault ≡ back.fault) × (short.plans.items ≡ take known back.plans.items)
  IsCutShort known (run.Close why) (run.Close short) = short ≡ why
  IsCutShort known (run.Open back) (run.Close short) = ⊥
  IsCutShort known (run.Close why) (run.Open short) = ⊥
