use Rattle.std.proofs.Common.{◌≡◌}
use Rattle.otp_trial.specs.Played.{Tells}
use Rattle.otp_trial.proofs.trial.Trial.settle.Given as goal

abbrev pub invariant-loop : goal.invariant-loop
invariant-loop l = Tells l.fn.self l.self l.fn.out.items l.out.items × (l.self.time ≡ l.fn.self.time)
