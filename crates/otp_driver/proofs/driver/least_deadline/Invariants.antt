use Rattle.std.proofs.Common.{◌≡◌, drop}
use Rattle.otp_driver.specs.Driven.{deadline_after, least_deadline}
use Rattle.otp_driver.proofs.driver.least_deadline.Given as goal

abbrev pub invariant-loop-supervisor : goal.invariant-loop-supervisor
invariant-loop-supervisor l = deadline_after l.least (drop l.supervisor-index l.supervisors) ≡ least_deadline l.supervisors
