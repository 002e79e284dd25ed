use Rattle.std.proofs.Common.{◌≡◌, ◌+◌, length}
use Rattle.otp_logs.specs.Lines.{ends_in}
use Rattle.otp_logs.proofs.translating.put_lines.Given as goal

abbrev pub invariant-loop-end : goal.invariant-loop-end
invariant-loop-end l = ends_in l.out.items + ends_in l.rest ≡ ends_in l.fn.out.items + ends_in l.text

abbrev pub decreases-loop-end : goal.decreases-loop-end
decreases-loop-end l = length l.rest
