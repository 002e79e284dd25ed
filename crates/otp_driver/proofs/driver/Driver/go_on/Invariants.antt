use Rattle.otp_driver.specs.Driven.{GoesIn}
use Rattle.otp_driver.proofs.driver.Driver.go_on.Given as goal

abbrev pub invariant-loop-steps : goal.invariant-loop-steps
invariant-loop-steps l = GoesIn l._steps l.fn.self l.self
