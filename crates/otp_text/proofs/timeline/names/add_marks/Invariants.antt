use Rattle.std.proofs.Common.{◌≡◌, drop}
use Rattle.otp_text.specs.Picture.{with_marks}
use Rattle.otp_text.proofs.timeline.names.add_marks.Given as goal

abbrev pub invariant-loop-mark : goal.invariant-loop-mark
invariant-loop-mark l = with_marks l.ids.items (drop l.mark-index l.marks) ≡ with_marks l.fn.ids.items l.marks
