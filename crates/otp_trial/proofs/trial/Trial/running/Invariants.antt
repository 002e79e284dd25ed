use Rattle.std.proofs.Common.{◌≡◌, List, ◌∷◌, length, true}
use Rattle.std.specs.Prelude.{Bool}
use Rattle.otp_trial.proofs.trial.Trial.running.Given as goal

abbrev pub invariant-loop-place : goal.invariant-loop-place
invariant-loop-place l = ((others : List Bool) × (l.running.items ≡ true ∷ others)) × (length l.running.items ≡ l.place)
