-- Of a tree that grows and was not run the plans come back without those of its spare places.
use Rattle.std.proofs.Common.{◌≡◌, ℕ, zero, suc, ◌∙◌, List, [], ◌∷◌, ◌++◌, ap, length, refl, subst, sym, take}
use Rattle.otp_close.specs.Closes.{IsMismatchOnly, NoneMissing}
use Rattle.otp_inbox.specs.Names.{InboxId, numbered}
use Rattle.otp_run.specs.Lists.{AllAt}
use Rattle.otp_open.proofs.SparePlaces.{padded_bodies, padded_fault, padded_front}
use Rattle.otp_open.specs.Plans.{IsOpenFault}
use Rattle.otp_open.specs.Spares.{ArePadded}
use Rattle.otp_open.specs.declared.plan.TablePlan.{TablePlan}
use Rattle.otp_tree.specs.Closes.{IsRunMismatchOnly, IsRunNoneMissing, IsRunOpenFault}
use Rattle.otp_tree.specs.declared.whole.RunFault.{RunFault}
use Rattle.otp_tree.specs.declared.whole.RunFault.TheVariants as run
use Rattle.otp_live.specs.Shortened.{IsCutShort}

-- each inbox has its number in the list, also where another stands behind them
pub each_numbered : (ids : List InboxId) (last : InboxId) → AllAt (λ k id. id ≡ numbered (ids ++ last ∷ []) k) ids
each_numbered [] last k = tt
each_numbered (x ∷ ids) last zero = refl
each_numbered (x ∷ ids) last (suc k) = each_numbered ids last k

module _ {J S : Type 0} (known : ℕ) where
  pub short_opened : (places : ℕ) (plans all : List (TablePlan J S)) (why short : RunFault J S)
      → known ≡ length plans → ArePadded places plans all → IsCutShort known why short → IsRunOpenFault all why → IsRunOpenFault plans short
  short_opened places plans all (run.Open back) (run.Open short) many p cut is =
      (subst (IsOpenFault plans) (sym cut.0) (padded_fault places plans all back.fault p is.0), cut.1 ∙ ap (take known) is.1 ∙ padded_front places known plans all many p)
  short_opened places plans all (run.Close why) (run.Close short) many p cut is = padded_bodies places plans all p is
  short_opened places plans all (run.Open back) (run.Close short) many p cut is = absurd cut
  short_opened places plans all (run.Close why) (run.Open short) many p cut is = absurd cut

  pub short_mismatch : (why short : RunFault J S) → IsCutShort known why short → IsRunMismatchOnly why → IsRunMismatchOnly short
  short_mismatch (run.Open back) (run.Open short) cut is = tt
  short_mismatch (run.Close why) (run.Close short) cut is = subst IsMismatchOnly (sym cut) is
  short_mismatch (run.Open back) (run.Close short) cut is = absurd cut
  short_mismatch (run.Close why) (run.Open short) cut is = absurd cut

  pub short_missing : (why short : RunFault J S) → IsCutShort known why short → IsRunNoneMissing why → IsRunNoneMissing short
  short_missing (run.Open back) (run.Open short) cut is = tt
  short_missing (run.Close why) (run.Close short) cut is = subst NoneMissing (sym cut) is
  short_missing (run.Open back) (run.Close short) cut is = absurd cut
  short_missing (run.Close why) (run.Open short) cut is = absurd cut
