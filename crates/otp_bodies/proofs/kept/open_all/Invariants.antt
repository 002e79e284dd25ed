use Rattle.std.proofs.Common.{◌≡◌, ◌++◌, take, drop}
use Rattle.otp_bodies.specs.Bodies.{opened}
use Rattle.otp_bodies.proofs.kept.open_all.Given as goal

abbrev pub invariant-loop-one : goal.invariant-loop-one
invariant-loop-one l = take l.one-index l.kept ++ opened l.rows (drop l.one-index l.kept) ≡ opened l.rows l.fn.kept
