use Rattle.std.proofs.Common.{◌≡◌, ◌<◌, None, ℕ}
use Rattle.otp_driver.specs.Driven.{comes_at}
use Rattle.otp_driver.proofs.driver.Driver.find_by_itself.Given as goal

abbrev pub invariant-loop-place : goal.invariant-loop-place
invariant-loop-place l = (place : ℕ) → place < l.place → comes_at l.self place ≡ None
