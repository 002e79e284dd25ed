use Rattle.std.proofs.Common.{◌≡◌, length}
use Rattle.otp_logs.specs.Formats.{format_in}
use Rattle.otp_logs.specs.Lines.{lines_of}
use Rattle.otp_logs.proofs.format.format_of.Given as goal

abbrev pub invariant-loop-end : goal.invariant-loop-end
invariant-loop-end l = format_in (lines_of l.rest) ≡ format_in (lines_of l.text)

abbrev pub decreases-loop-end : goal.decreases-loop-end
decreases-loop-end l = length l.rest
