use Rattle.std.proofs.Common.{◌∙◌, sym}
use Rattle.otp_driver.specs.Members.{row_at, state_in}
use Rattle.otp_driver.proofs.DrivenUnder.{none_nested}
use Rattle.otp_driver.proofs.route.nested_at.Goals as goal

pub returns-else-has_nested : goal.returns-else-has_nested
returns-else-has_nested c =
    sym (none_nested c.args.place (row_at (state_in c.args.supervisor.now).rows c.args.number) c.args.links.now (sym c.has_nested.ensures ∙ c.if-has_nested.false))
