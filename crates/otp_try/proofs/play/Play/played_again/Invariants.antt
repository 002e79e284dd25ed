use Rattle.std.proofs.Common.{ℕ, List, map}
use Rattle.otp_trial.specs.Played.{Tells, at_start, fresh}
use Rattle.otp_try.proofs.play.Play.played_again.Given as goal

abbrev pub invariant-loop-kept : goal.invariant-loop-kept
invariant-loop-kept l = (before : List ℕ) × Tells (at_start l.self.trial.clock (map fresh l.self.trial.seats)) l.trial before l.sheet.items
