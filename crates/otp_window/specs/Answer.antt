use Rattle.std.specs.Prelude.{ℕ, List, nat_le, if◌then◌else◌}
use Rattle.otp_window.specs.declared.Within.{Within}
use Rattle.otp_window.specs.declared.Within.TheVariants.{Ok, Exceeded}
use Rattle.otp_window.specs.Period.{in_period}

-- whether the period that ends at t has at most as many restarts as the intensity
-- (Supervisor Behaviour, Maximum Restart Intensity)
abbrev pub within : ℕ → ℕ → List ℕ → ℕ → Within
within intensity period stamps t = if nat_le (in_period period stamps t) intensity then Ok else Exceeded
