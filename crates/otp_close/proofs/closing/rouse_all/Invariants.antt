use Rattle.std.specs.Prelude.{◌≡◌}
use Rattle.otp_hand.specs.Standings.{standings}
use Rattle.otp_close.proofs.closing.rouse_all.Given as goal

abbrev pub invariant-loop-place : goal.invariant-loop-place
invariant-loop-place g l = standings l.hands.items ≡ standings l.initial.hands.items
