-- How many starts are still to be sent.
use Rattle.std.proofs.Common.{ℕ, ◌≤◌, List, [], ◌∷◌, arith, length}
use Rattle.otp_rules.specs.State.{State}
use Rattle.otp_sup.specs.Facts.{AreToStart}

-- an event starts one child at most
pub few_to_start : (s : State) (ps : List ℕ) → AreToStart s ps → length ps ≤ 1
few_to_start s [] are = omega arith
few_to_start s (p ∷ []) are = omega arith
few_to_start s (p ∷ q ∷ ps) are = absurd are
