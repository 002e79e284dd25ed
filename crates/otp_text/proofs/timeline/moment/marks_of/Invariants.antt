use Rattle.std.proofs.Common.{◌≡◌, ◌++◌, drop, map}
use Rattle.otp_text.specs.Moments.{mark_of}
use Rattle.otp_text.proofs.timeline.moment.marks_of.Given as goal

abbrev pub invariant-loop-row : goal.invariant-loop-row
invariant-loop-row l = l.marks.items ++ map mark_of (drop l.row-index l.rows) ≡ map mark_of l.rows
