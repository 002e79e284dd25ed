use Rattle.std.proofs.Common.{◌≡◌, drop, true}
use Rattle.otp_replay.specs.Nears.{near_in}
use Rattle.otp_replay.proofs.near.find_near.Given as goal

abbrev pub invariant-loop-place : goal.invariant-loop-place
invariant-loop-place l = near_in l.begins (drop l.place l.line) ≡ near_in true l.line
