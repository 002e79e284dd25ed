use Rattle.std.proofs.Common.{◌≡◌, ◌++◌, drop}
use Rattle.otp_base.specs.Seats.{kept_rows}
use Rattle.otp_base.proofs.change.seat.list_kept.Given as goal

abbrev pub invariant-loop-seat : goal.invariant-loop-seat
invariant-loop-seat l = l.rows.items ++ kept_rows (drop l.seat-index l.seats) ≡ kept_rows l.seats
