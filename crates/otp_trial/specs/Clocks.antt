-- What a clock shows (own).
use Rattle.std.specs.Prelude.{ℕ}
use Rattle.otp_trial.specs.Strains.{second}
use Rattle.otp_trial.specs.declared.clock.Clock.{Clock}
use Rattle.otp_trial.specs.declared.clock.Clock.TheVariants.{Milliseconds, Seconds}

-- what a clock shows at a time in milliseconds: that, or the second that has begun
unfoldable pub shown : Clock → ℕ → ℕ
shown Milliseconds time = time
shown Seconds time = second time
