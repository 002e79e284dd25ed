-- A supervisor stays that of its plan.
use Rattle.std.proofs.Common.{◌≡◌, ℕ, None, Option, Some, ap, subst, sym, ◌∙◌}
use Rattle.otp_rules.specs.State.{State}
use Rattle.otp_spec.specs.Supervisor.{Supervisor}
use Rattle.otp_sup.specs.Plans.{IsBegunBy, IsPlanned, never_opened}

pub planned : (plans : ℕ → Option Supervisor) (base later : State) (inbox number : ℕ) → later ≡ base → number ≡ inbox → IsBegunBy (plans inbox) base → IsBegunBy (plans number) later
planned plans base later inbox number same own is =
    subst (λ (n : ℕ). IsBegunBy (plans n) later) (sym own) (subst (λ (b : State). IsBegunBy (plans inbox) b) (sym same) is)

-- it begins as its plan says
pub begun_by : (plan : Option Supervisor) (supervisor : Supervisor) (base : State) → base ≡ never_opened supervisor → IsPlanned plan supervisor → IsBegunBy plan base
begun_by None supervisor base is planned = tt
begun_by (Some p) supervisor base is planned = is ∙ ap never_opened planned
