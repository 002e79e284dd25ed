use Rattle.std.proofs.Common.{◌≡◌, ◌+◌, ◌≤◌, drop}
use Rattle.otp_text.specs.Picture.{added_in}
use Rattle.otp_text.proofs.timeline.column.added_in.Given as goal

abbrev pub invariant-loop-mark : goal.invariant-loop-mark
invariant-loop-mark l = (l.count ≤ l.mark-index) × (l.count + added_in (drop l.mark-index l.marks) ≡ added_in l.marks)
