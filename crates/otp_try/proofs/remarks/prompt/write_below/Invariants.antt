use Rattle.std.proofs.Common.{◌≡◌, ◌++◌, drop}
use Rattle.otp_try.specs.Prompt.{standing_lines}
use Rattle.otp_try.proofs.remarks.prompt.write_below.Given as goal

abbrev pub invariant-loop-place : goal.invariant-loop-place
invariant-loop-place l =
    l.out.items ++ standing_lines l.now (drop l.place l.seats) (drop l.place l.running)
    ≡ l.fn.out.items ++ standing_lines l.now (drop 1 l.seats) (drop 1 l.running)
