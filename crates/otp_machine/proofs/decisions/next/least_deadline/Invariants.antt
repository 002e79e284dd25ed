use Rattle.std.proofs.Common.{◌≡◌, drop}
use Rattle.otp_rules.specs.Next.{deadline_from, next_deadline}
use Rattle.otp_machine.proofs.decisions.next.least_deadline.Given as goal

-- the least so far and the rest lead where all lead
abbrev pub invariant-loop-row : goal.invariant-loop-row
invariant-loop-row l = deadline_from l.least (drop l.row-index l.rows) ≡ next_deadline l.rows
