use Rattle.std.proofs.Common.{◌≡◌, ◌++◌, drop}
use Rattle.otp_try.specs.Prompt.{awaited_by_all}
use Rattle.otp_try.proofs.remarks.prompt.write_all_awaited.Given as goal

abbrev pub invariant-loop-place : goal.invariant-loop-place
invariant-loop-place l =
    l.out.items ++ awaited_by_all (drop l.place l.seats) (drop l.place l.running) ≡ l.fn.out.items ++ awaited_by_all l.seats l.running
