use Rattle.std.proofs.Common.{◌≡◌, ◌++◌, drop, map, take}
use Rattle.otp_trial.specs.Played.{fresh}
use Rattle.otp_trial.proofs.planting.freshen_each.Given as goal

abbrev pub invariant-loop-seat : goal.invariant-loop-seat
invariant-loop-seat l = take l.seat-index l.seats ++ map fresh (drop l.seat-index l.seats) ≡ map fresh l.fn.seats
