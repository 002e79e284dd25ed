use Rattle.std.proofs.Common.{◌≡◌, drop}
use Rattle.otp_logs.specs.Objects.{is_key}
use Rattle.otp_logs.specs.Words.{first_tail}
use Rattle.otp_logs.proofs.keys.from_key.Given as goal

abbrev pub invariant-loop-place : goal.invariant-loop-place
invariant-loop-place l = first_tail (λ text. is_key l.key text) (drop l.place l.line) ≡ first_tail (λ text. is_key l.key text) l.line
