use Rattle.std.proofs.Common.{◌≡◌, ◌++◌, drop}
use Rattle.otp_commands.specs.Findings.{next_objects}
use Rattle.otp_commands.proofs.objects.put_others.Given as goal

abbrev pub invariant-loop-fault : goal.invariant-loop-fault
invariant-loop-fault g l =
    l.out.items ++ next_objects g.F.Remark.remarked (drop l.fault-index l.faults) ≡ l.fn.out.items ++ next_objects g.F.Remark.remarked l.faults
