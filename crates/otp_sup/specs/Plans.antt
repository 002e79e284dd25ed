-- What each supervisor is opened with, by the number of its inbox. (own)
use Rattle.std.specs.Prelude.{◌≡◌, ◌<◌, ℕ, IfSome, Option, is_some, true}
use Rattle.otp_rules.specs.Run.{empty_state}
use Rattle.otp_rules.specs.State.{State}
use Rattle.otp_spec.specs.Supervisor.{Supervisor}

-- the supervisor of this plan, as it is before it is opened for the first time
abbrev pub never_opened : Supervisor → State
never_opened plan = empty_state plan.flags plan.specs

-- a supervisor that was planned when the name was picked began as its plan says, never opened; of another nothing is said
abbrev pub IsBegunBy : Option Supervisor → State → Type 0
IsBegunBy plan base = IfSome plan (λ p. base ≡ never_opened p)

-- the plan of a supervisor that was planned then is no other one
abbrev pub IsPlanned : Option Supervisor → Supervisor → Type 0
IsPlanned plan supervisor = IfSome plan (λ p. supervisor ≡ p)

-- the name has the plan of each of so many supervisors
abbrev pub AreAllPlanned : (ℕ → Option Supervisor) → ℕ → Type 0
AreAllPlanned plans tables = (k : ℕ) → k < tables → is_some (plans k) ≡ true
