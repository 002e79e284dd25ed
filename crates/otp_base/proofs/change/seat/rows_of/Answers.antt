use Rattle.std.proofs.Common.{List, ap, arith, length}
use Rattle.otp_table.specs.declared.row.Row.{Row}
use Rattle.otp_base.proofs.Seating.{all_seats}
use Rattle.otp_base.proofs.change.seat.rows_of.Goals as goal

pub fill-requires : goal.fill-requires
fill-requires c = omega (arith, ap (λ (rows : List Row). length rows) c.in_ok-used.ensures, all_seats c.args.seats.now, c.requires)
