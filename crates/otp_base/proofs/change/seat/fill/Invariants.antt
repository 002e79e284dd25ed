use Rattle.std.proofs.Common.{◌≡◌, ◌+◌, ◌≤◌, [], drop, length}
use Rattle.otp_spec.specs.declared.limits.TheConstants.{MAX_CHILDREN}
use Rattle.otp_base.specs.Seats.{filled, vacant}
use Rattle.otp_base.proofs.change.seat.fill.Given as goal

-- the rows so far and those of the other seats are all; the slots that these want are below the limit
abbrev pub invariant-loop-seat : goal.invariant-loop-seat
invariant-loop-seat l =
    record {
      rows : filled l.used.items l.rows.items (drop l.seat-index l.seats) ≡ filled l.fn.used.items [] l.seats;
      room : length l.used.items + vacant (drop l.seat-index l.seats) ≤ MAX_CHILDREN;
    }
