-- Where the laws of this crate begin.
use Rattle.std.specs.Prelude.{ℕ}
use Rattle.otp_rules.specs.State.{State}
use Rattle.otp_rules.specs.Progress.{Progress}
use Rattle.otp_rules.specs.Fit.{IsFit}
use Rattle.otp_rules.specs.InOrder.{Awaits, IsInOrder}

-- a supervisor between two events of a lawful history whose numbers so far are below m: it is fit and in order, and open
-- work awaits an answer of a child
abbrev pub IsBasis : ℕ → State → Progress → Type 0
IsBasis m s g = IsFit m s g × IsInOrder m s × Awaits s
