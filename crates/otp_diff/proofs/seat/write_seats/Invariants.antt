use Rattle.std.proofs.Common.{◌≡◌, ◌++◌, drop}
use Rattle.std.specs.List.{flat_map}
use Rattle.otp_diff.specs.Changes.{seat_text}
use Rattle.otp_diff.proofs.seat.write_seats.Given as goal

abbrev pub invariant-loop-seat : goal.invariant-loop-seat
invariant-loop-seat l =
    l.out.items ++ flat_map (seat_text l.form l.others) (drop l.seat-index l.seats) ≡ l.fn.out.items ++ flat_map (seat_text l.form l.others) l.seats
