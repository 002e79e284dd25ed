-- Hands that are taken apart. (own)
use Rattle.std.specs.Prelude.{⊤, List}
use Rattle.otp_run.specs.Gathers.{IsAll}
use Rattle.otp_run.specs.Schedulers.{SchedulerState}
use Rattle.otp_close.specs.declared.closing.Refusal.{Refusal}
use Rattle.otp_close.specs.declared.closing.Refusal.TheVariants as refusal

-- that a hand is missing is said only where these are not all
abbrev pub IsHandsRefused : List SchedulerState → Refusal → Type 0
IsHandsRefused schedulers refusal.Missing = ¬ (IsAll schedulers)
IsHandsRefused schedulers refusal.OutOfMemory = ⊤
IsHandsRefused schedulers (refusal.Misplaced d) = ⊤
