use Rattle.std.proofs.Common.{◌≡◌, ℕ, ◌<◌, false}
use Rattle.otp_driver.specs.Changed.{is_untied}
use Rattle.otp_driver.proofs.driver.Driver.find_untied.Given as goal

abbrev pub invariant-loop-place : goal.invariant-loop-place
invariant-loop-place l = (place : ℕ) → place < l.place → is_untied l.self place ≡ false
