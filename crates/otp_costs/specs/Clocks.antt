-- Whole seconds, and where in a second crashes begin (own).
use Rattle.std.specs.Prelude.{ℕ, ◌+◌, ◌≤◌}
use Rattle.otp_trial.specs.Clocks.{shown}
use Rattle.otp_trial.specs.declared.clock.Clock.TheVariants.{Seconds}

-- two moments so far apart are nowhere shown closer together than where the first of them begins a second
abbrev pub FirstPhaseIsWorst : Type 0
FirstPhaseIsWorst = (phase apart : ℕ) → shown Seconds phase + shown Seconds apart ≤ shown Seconds (phase + apart)
