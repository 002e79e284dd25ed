-- What is found of a tree that is refused for its starts.
use Rattle.std.proofs.Common.{◌≡◌, ℕ, List, [], ◌∷◌, refl}
use Rattle.otp_file.specs.declared.roles.fault.PlanFault.{PlanFault}
use Rattle.otp_check.specs.Unfit.{FindsUnfit, HasStarts}
use Rattle.otp_check.specs.declared.starts.finding.StartFinding.{StartFinding}

pub unfit_found : (file : List ℕ) (found : List StartFinding) → ¬ (found ≡ []) → ((why : PlanFault) × HasStarts file why) → FindsUnfit found file
unfit_found file [] some why = absurd (some refl)
unfit_found file (first ∷ others) some why = why
