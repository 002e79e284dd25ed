use Rattle.std.proofs.Common.{List, rules, subst, sym}
use Rattle.otp_check.specs.Checks.{Finds}
use Rattle.otp_check.specs.declared.finding.Finding.{Finding}
use Rattle.otp_commands.proofs.Written.{faulty, some_of}
use Rattle.otp_commands.proofs.checking.check_file.Goals as goal

pub returns : goal.returns
returns g c =
    faulty c.args.checking c.args.name.now c.args.file.now c.as_slice.result.now c.write_faults.result (g.W.Output.seen c.args.output.now) (g.W.Output.seen c.write_faults.new.output)
    (subst (λ (found : List Finding). Finds found c.args.file.now) (sym c.as_slice.ensures.value) c.in-Ok.ensures)
    (some_of c.as_slice.result.now (search rules)) c.write_faults.ensures
