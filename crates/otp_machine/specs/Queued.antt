-- What waits, as a supervisor keeps it.
use Rattle.std.specs.Prelude.{ℕ, List}
use Rattle.otp_rules.specs.declared.event.Waiting.{Waiting}

-- what waits, in its order, and how much more can be kept without memory (own)
pub record Queued : Type 0 where
  pub items : List Waiting
  pub room : ℕ
