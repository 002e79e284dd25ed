use Rattle.std.proofs.Common.{List, rules, subst, sym}
use Rattle.otp_check.specs.Unfit.{FindsUnfit}
use Rattle.otp_check.specs.declared.starts.finding.StartFinding.{StartFinding}
use Rattle.otp_commands.proofs.Written.{some_of, unfit_for}
use Rattle.otp_commands.proofs.checking.check_starts.Goals as goal

pub returns : goal.returns
returns g c =
    unfit_for c.args.checking c.args.name.now c.args.file.now c.as_slice.result.now c.write_faults.result (g.W.Output.seen c.args.output.now) (g.W.Output.seen c.write_faults.new.output)
    (subst (λ (found : List StartFinding). FindsUnfit found c.args.file.now) (sym c.as_slice.ensures.value) c.in-Ok.ensures)
    (some_of c.as_slice.result.now (search rules)) c.write_faults.ensures
