use Rattle.otp_try.specs.Accounts.{Adds}
use Rattle.otp_try.proofs.account.playing.play_lines.Given as goal

abbrev pub invariant-loop-line : goal.invariant-loop-line
invariant-loop-line l = Adds l.fn.trial l.fn.lines.items l.trial l.lines.items
