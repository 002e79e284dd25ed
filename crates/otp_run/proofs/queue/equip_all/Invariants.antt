use Rattle.std.proofs.Common.{◌≡◌, length}
use Rattle.otp_run.specs.Lists.{AllAt}
use Rattle.otp_run.specs.Opens.{HasLent, none_yet}
use Rattle.otp_run.proofs.queue.equip_all.Given as goal

abbrev pub invariant-loop-thief : goal.invariant-loop-thief
invariant-loop-thief g l = (length l.schedulers.items ≡ length l.fn.schedulers.items) × AllAt (HasLent (length l.fn.schedulers.items) l.thief none_yet) l.schedulers.items
