use Rattle.std.proofs.Common.{◌≡◌, drop}
use Rattle.otp_logs.specs.Words.{begins, first_tail}
use Rattle.otp_logs.proofs.words.from_bytes.Given as goal

abbrev pub invariant-loop-place : goal.invariant-loop-place
invariant-loop-place l = first_tail (λ rest. begins l.bytes rest) (drop l.place l.text) ≡ first_tail (λ rest. begins l.bytes rest) l.text
