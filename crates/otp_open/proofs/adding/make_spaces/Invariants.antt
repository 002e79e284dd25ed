use Rattle.std.proofs.Common.{take}
use Rattle.otp_open.specs.Adds.{Fit}
use Rattle.otp_open.proofs.adding.make_spaces.Given as goal

abbrev pub invariant-loop-place : goal.invariant-loop-place
invariant-loop-place g l = Fit (take l.place l.plans) l.spaces.items
