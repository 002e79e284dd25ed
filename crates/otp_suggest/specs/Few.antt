-- Crashes that are no more than the intensity (Supervisor Behaviour, Maximum Restart Intensity).
use Rattle.std.specs.Prelude.{◌≡◌, ℕ, ◌≤◌, List, length}
use Rattle.otp_window.specs.Answer.{within}
use Rattle.otp_window.specs.declared.Within.TheVariants.{Ok}

-- whenever they came, they are no more within any period: more than the intensity would be
abbrev pub FewAreWithin : Type 0
FewAreWithin = (intensity period time : ℕ) (stamps : List ℕ) → length stamps ≤ intensity → within intensity period stamps time ≡ Ok
