use Rattle.std.proofs.Common.{◌∙◌}
use Rattle.otp_needs.specs.Begun.{begun}
use Rattle.otp_needs.proofs.Needed.{beside_ended, beside_up}
use Rattle.otp_needs.proofs.needs.goes_on_beside.Goals as goal

pub returns-clause-up : goal.returns-clause-up
returns-clause-up c = λ now number row at. c.work_beside.ensures now ∙ beside_up number c.args.place row (begun c.args.machine.now now c.args.resumed) c.requires

pub returns-clause-ended : goal.returns-clause-ended
returns-clause-ended c = λ now row at. c.work_beside.ensures now ∙ beside_ended c.args.place row (begun c.args.machine.now now c.args.resumed) c.requires
