use Rattle.std.proofs.Common.{◌≡◌, drop}
use Rattle.otp_hand.specs.Deadlines.{due_from, least_due}
use Rattle.otp_hand.proofs.waiting.resting.least_due.Given as goal

-- the least so far and the rest lead where all lead
abbrev pub invariant-loop-rested : goal.invariant-loop-rested
invariant-loop-rested g l = due_from l.least (drop l.rested-index l.resting) ≡ least_due l.resting
