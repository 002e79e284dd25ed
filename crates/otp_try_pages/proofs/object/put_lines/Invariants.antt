use Rattle.std.proofs.Common.{◌≡◌, ◌++◌, drop, true}
use Rattle.otp_try_pages.specs.Objects.{lines_text}
use Rattle.otp_try_pages.proofs.object.put_lines.Given as goal

abbrev pub invariant-loop-one : goal.invariant-loop-one
invariant-loop-one l = l.out.items ++ lines_text l.is_first (drop l.one-index l.lines) ≡ l.fn.out.items ++ lines_text true l.lines
