use Rattle.std.proofs.Common.{◌≡◌, ◌++◌, drop}
use Rattle.std.specs.List.{filter}
use Rattle.otp_window.specs.Period.{is_in_period}
use Rattle.otp_base.proofs.change.stamps.times_within.Given as goal

abbrev pub invariant-loop-time : goal.invariant-loop-time
invariant-loop-time l = l.list.items ++ filter (is_in_period l.period l.last) (drop l.time-index l.times) ≡ filter (is_in_period l.period l.last) l.times
