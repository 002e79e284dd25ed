use Rattle.std.specs.Prelude.{◌≡◌}
use Rattle.otp_hand.specs.Standings.{reach_of, standings}
use Rattle.otp_tree.proofs.rounds.lead_named.Given as goal

abbrev pub invariant-loop : goal.invariant-loop
invariant-loop g l = (standings l.hands.items ≡ standings l.initial.hands.items) × (reach_of l.client ≡ reach_of l.initial.client)
