use Rattle.std.proofs.Common.{◌≡◌, ◌++◌, drop}
use Rattle.std.specs.List.{flat_map}
use Rattle.otp_try_pages.specs.Timeline.{title_cell}
use Rattle.otp_try_pages.proofs.columns.put_seat_titles.Given as goal

abbrev pub invariant-loop-seat : goal.invariant-loop-seat
invariant-loop-seat l = l.out.items ++ flat_map title_cell (drop l.seat-index l.seats) ≡ l.fn.out.items ++ flat_map title_cell l.seats
