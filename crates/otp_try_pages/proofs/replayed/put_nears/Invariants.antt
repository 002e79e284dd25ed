use Rattle.std.proofs.Common.{◌≡◌, ◌++◌, drop, true}
use Rattle.otp_try_pages.specs.Replayed.{nears_text}
use Rattle.otp_try_pages.proofs.replayed.put_nears.Given as goal

abbrev pub invariant-loop-one : goal.invariant-loop-one
invariant-loop-one l = l.out.items ++ nears_text l.is_first (drop l.one-index l.near) ≡ l.fn.out.items ++ nears_text true l.near
