use Rattle.std.proofs.Common.{◌≡◌, ◌-◌, ◌++◌, drop, take}
use Rattle.otp_script.specs.Spaced.{without_comment}
use Rattle.otp_script.proofs.words.strip_comment.Given as goal

abbrev pub invariant-loop-place : goal.invariant-loop-place
invariant-loop-place l = without_comment l.line ≡ take (l.place - 1) l.line ++ without_comment (drop (l.place - 1) l.line)
