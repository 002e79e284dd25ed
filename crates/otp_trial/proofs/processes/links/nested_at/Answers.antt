use Rattle.std.proofs.Common.{◌∙◌, sym}
use Rattle.otp_driver.specs.Members.{row_at}
use Rattle.otp_driver.proofs.DrivenUnder.{none_nested}
use Rattle.otp_trial.proofs.processes.links.nested_at.Goals as goal

pub returns-else-has_nested : goal.returns-else-has_nested
returns-else-has_nested c =
    sym (none_nested c.args.place (row_at c.args.rows.now c.args.process) c.args.links.now (sym c.has_nested.ensures ∙ c.if-has_nested.false))
