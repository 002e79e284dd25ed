use Rattle.std.proofs.Common.{◌≡◌, drop}
use Rattle.otp_try_pages.specs.Timeline.{last_time}
use Rattle.otp_try_pages.proofs.page.last_time.Given as goal

abbrev pub invariant-loop-one : goal.invariant-loop-one
invariant-loop-one l = last_time l.time (drop l.one-index l.lines) ≡ last_time l.fn.opening l.lines
