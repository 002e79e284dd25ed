use Rattle.std.proofs.Common.{◌≡◌}
use Rattle.otp_hand.specs.Standings.{standing_of}
use Rattle.otp_system.proofs.system.System.serve.Given as goal

abbrev pub invariant-loop : goal.invariant-loop
invariant-loop g l = (l.hand.passes ≡ l.initial.hand.passes) × (standing_of l.hand ≡ standing_of l.initial.hand)
