use Rattle.std.proofs.Common.{◌≡◌, ℕ, ◌<◌, None}
use Rattle.otp_driver.specs.Changed.{stay_fault_at}
use Rattle.otp_driver.proofs.driver.Driver.find_staying.Given as goal

abbrev pub invariant-loop-supervisor : goal.invariant-loop-supervisor
invariant-loop-supervisor l = (place : ℕ) → place < l.supervisor → stay_fault_at l.origins l.self place ≡ None
