use Rattle.std.proofs.Common.{◌≡◌, ◌++◌, take, drop}
use Rattle.otp_bodies.specs.Bodies.{settled}
use Rattle.otp_bodies.proofs.kept.settle_all.Given as goal

abbrev pub invariant-loop-one : goal.invariant-loop-one
invariant-loop-one l = take l.one-index l.kept ++ settled l.rows l.is_any_waiting (drop l.one-index l.kept) ≡ settled l.rows l.is_any_waiting l.fn.kept
