use Rattle.std.proofs.Common.{◌≡◌, ◌++◌, drop}
use Rattle.otp_try_pages.specs.Windows.{steps_from}
use Rattle.otp_try_pages.proofs.windows.put_steps.Given as goal

abbrev pub invariant-loop-one : goal.invariant-loop-one
invariant-loop-one l =
    l.out.items ++ steps_from l.last l.flags l.place l.used l.time (drop l.one-index l.lines)
    ≡ l.fn.out.items ++ steps_from l.last l.flags l.place 0 0 l.lines
