use Rattle.std.proofs.Common.{◌≡◌, take}
use Rattle.otp_bodies.specs.Bodies.{settled}
use Rattle.otp_bodies.proofs.kept.are_seen_to_stay.Given as goal

abbrev pub invariant-loop-one : goal.invariant-loop-one
invariant-loop-one l = settled l.rows l.is_any_waiting (take l.one-index l.kept) ≡ take l.one-index l.kept
