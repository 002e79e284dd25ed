use Rattle.std.proofs.Common.{length, ◌-◌, ◌≡◌, drop}
use Rattle.otp_bodies.specs.Orders.{orders_in}
use Rattle.otp_bodies.proofs.office.orders.first_order.Given as goal

abbrev pub invariant-loop-place : goal.invariant-loop-place
invariant-loop-place l = orders_in (drop l.place l.effects) ≡ orders_in (drop l.from l.effects)

abbrev pub decreases-loop-place : goal.decreases-loop-place
decreases-loop-place l = length l.effects - l.place
