use Rattle.std.proofs.Common.{◌≡◌, drop}
use Rattle.otp_base.specs.Seats.{seated, standing}
use Rattle.otp_base.proofs.change.seat.seat_children.Given as goal

-- the seats so far and those of the other specifications are all
abbrev pub invariant-loop-spec : goal.invariant-loop-spec
invariant-loop-spec l = seated (record { seats = l.seats.items; left = l.left.items }) (drop l.spec-index l.specs) ≡ seated (standing l.rows) l.specs
