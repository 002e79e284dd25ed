use Rattle.std.proofs.Common.{◌≡◌, max}
use Rattle.otp_trial.specs.Played.{Tells}
use Rattle.otp_trial.proofs.trial.Trial.go_to.Given as goal

abbrev pub invariant-loop : goal.invariant-loop
invariant-loop l = Tells l.fn.self l.self l.fn.out.items l.out.items × (max l.self.time l.time ≡ max l.fn.self.time l.time)
