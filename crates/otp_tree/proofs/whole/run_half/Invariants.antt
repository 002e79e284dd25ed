use Rattle.std.specs.Prelude.{◌≡◌, length}
use Rattle.otp_hand.specs.Standings.{standings}
use Rattle.otp_tree.proofs.whole.run_half.Given as goal

abbrev pub invariant-loop : goal.invariant-loop
invariant-loop g l = (length l.passes ≡ length l.initial.passes) × (standings l.hands.items ≡ standings l.initial.hands.items)
