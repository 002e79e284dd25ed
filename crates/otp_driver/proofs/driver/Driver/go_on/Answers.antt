use Rattle.std.proofs.Common.{◌≡◌, Some, position, rules}
use Rattle.otp_driver.specs.Driven.{Step}
use Rattle.otp_driver.specs.Members.{has_order}
use Rattle.otp_driver.proofs.Steps.{goes_then}
use Rattle.otp_driver.proofs.Within.{first_has}
use Rattle.otp_driver.proofs.driver.Driver.go_on.Goals as goal
use Rattle.otp_driver.proofs.driver.Driver.go_on.Goals.{in-Some+in_ok-go_on_at-in-Some+else-not-branch, in-None+in_ok-go_on_idle-in-None+else-not-branch-2}

pub go_on_at-requires-clause-order : goal.go_on_at-requires-clause-order
go_on_at-requires-clause-order c =
    let found : position has_order c.loop-steps.self.members ≡ Some c.in-Some.place = search rules in
    first_has c.loop-steps.self.members c.in-Some.place found

pub loop-steps-preserved : goal.loop-steps-preserved
loop-steps-preserved c =
    goes_then _ _ c.loop-steps.self c.match-find_order.self c.loop-steps.invariant
    (elim c.match-find_order.branch as (λ _. Step c.loop-steps.self c.match-find_order.self) [
      | in-Some+in_ok-go_on_at-in-Some+else-not-branch w ↦ let step : Step c.loop-steps.self w.go_on_at.new.self = search rules in search rules
      | in-None+in_ok-go_on_idle-in-None+else-not-branch-2 w ↦ let step : Step c.loop-steps.self w.go_on_idle.new.self = search rules in search rules
    ])
