-- How a run is asked for (own).
use Rattle.std.specs.Prelude.{ℕ, Bool, ◌≤◌}
use Rattle.otp_file.specs.declared.roles.settings.TheConstants.{MIN_SCHEDULERS, MAX_SCHEDULERS, MIN_TURNS, MAX_TURNS}

-- the limits of a run
abbrev pub AreSettings : ℕ → ℕ → Type 0
AreSettings schedulers turns =
    (MIN_SCHEDULERS ≤ schedulers) × (schedulers ≤ MAX_SCHEDULERS) × (MIN_TURNS ≤ turns) × (turns ≤ MAX_TURNS)

pub record SettingsView : Type 0 where
  pub schedulers : ℕ
  pub turns : ℕ
  -- whether the report says what each supervisor counts before the stop
  pub counted : Bool
