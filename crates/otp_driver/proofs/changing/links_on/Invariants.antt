use Rattle.std.proofs.Common.{◌≡◌, ◌++◌, drop}
use Rattle.otp_driver.specs.Changed.{links_from}
use Rattle.otp_driver.proofs.changing.links_on.Given as goal

-- the links so far and the others are all
abbrev pub invariant-loop-place : goal.invariant-loop-place
invariant-loop-place l = l.list.items ++ links_from l.olds l.origins l.place (drop l.place l.planted) ≡ links_from l.olds l.origins 0 l.planted
