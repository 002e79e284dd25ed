use Rattle.std.proofs.Common.{◌<◌, arith, length, map}
use Rattle.otp_trial.specs.Played.{fresh}
use Rattle.otp_trial.proofs.Again.{mapped_after}
use Rattle.otp_trial.proofs.planting.freshen_each.Goals as goal

pub loop-seat-preserved : goal.loop-seat-preserved
loop-seat-preserved c =
    let within = c.loop-seat-test.true in
    let many = c.loop-seat.auto.seats in
    let inside : c.loop-seat.seat-index < length c.loop-seat.seats = omega (arith, within, many) in
    mapped_after fresh c.loop-seat.seats (map fresh c.args.seats.now) c.loop-seat.seat-index c.seat-item.result c.freshen.new.self inside c.in_ok-freshen.ensures
    c.loop-seat.invariant
