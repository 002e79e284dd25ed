use Rattle.std.proofs.Common.{◌≡◌, ◌++◌, drop, map}
use Rattle.otp_trial.specs.Played.{fresh}
use Rattle.otp_trial.proofs.planting.fresh_seats.Given as goal

abbrev pub invariant-loop-seat : goal.invariant-loop-seat
invariant-loop-seat l = l.anew.items ++ map fresh (drop l.seat-index l.seats) ≡ map fresh l.seats
