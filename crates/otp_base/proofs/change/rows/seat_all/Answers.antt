use Rattle.std.proofs.Common.{List, ap, arith, length, ◌∙◌}
use Rattle.otp_base.specs.declared.change.seat.Seat.{Seat}
use Rattle.otp_base.specs.Seats.{standing}
use Rattle.otp_base.proofs.Seating.{each_seat}
use Rattle.otp_base.proofs.change.rows.seat_all.Goals as goal

pub rows_of-requires : goal.rows_of-requires
rows_of-requires c = omega (arith, ap (λ (seats : List Seat). length seats) (c.as_slice-2.ensures.value ∙ c.in_ok-all.ensures.seats), each_seat c.args.specs.now (standing c.args.rows.now), c.requires)
