use Rattle.std.specs.Prelude.{◌≡◌}
use Rattle.otp_hand.specs.Standings.{standing_of}
use Rattle.otp_system.proofs.pool.serve_alone.Given as goal

abbrev pub invariant-loop : goal.invariant-loop
invariant-loop g l = standing_of l.hand ≡ standing_of l.initial.hand
