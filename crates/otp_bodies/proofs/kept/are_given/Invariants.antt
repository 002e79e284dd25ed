use Rattle.std.proofs.Common.{◌≡◌, true}
use Rattle.otp_bodies.specs.Bodies.{are_given}
use Rattle.otp_bodies.proofs.kept.are_given.Given as goal

abbrev pub invariant-loop-place : goal.invariant-loop-place
invariant-loop-place l = are_given l.place l.kept ≡ true
