use Rattle.std.proofs.Common.{◌≡◌, ◌++◌, drop}
use Rattle.otp_try.specs.Sketched.{standings_in}
use Rattle.otp_try.proofs.remarks.sketch.standings_in.Given as goal

abbrev pub invariant-loop-place : goal.invariant-loop-place
invariant-loop-place l =
    l.standings.items ++ standings_in l.time (drop l.place l.seats) (drop l.place l.running) ≡ standings_in l.time l.seats l.running
