use Rattle.std.proofs.Common.{◌≡◌, ◌++◌, drop}
use Rattle.std.specs.List.{flat_map}
use Rattle.otp_diff.specs.Changes.{new_seat_text}
use Rattle.otp_diff.proofs.seat.write_new_seats.Given as goal

abbrev pub invariant-loop-seat : goal.invariant-loop-seat
invariant-loop-seat l =
    l.out.items ++ flat_map (new_seat_text l.form l.olds) (drop l.seat-index l.seats) ≡ l.fn.out.items ++ flat_map (new_seat_text l.form l.olds) l.seats
