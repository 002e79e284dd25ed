use Rattle.std.proofs.Common.{◌≡◌, ◌++◌, drop}
use Rattle.otp_commands.specs.Findings.{lines_text}
use Rattle.otp_commands.proofs.findings.write_lines.Given as goal

abbrev pub invariant-loop-fault : goal.invariant-loop-fault
invariant-loop-fault g l =
    l.out.items ++ lines_text g.F.Remark.remarked l.shown (drop l.fault-index l.faults) ≡ l.fn.out.items ++ lines_text g.F.Remark.remarked l.shown l.faults
