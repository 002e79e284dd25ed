use Rattle.std.proofs.Common.{sym, rules}
use Rattle.otp_driver.proofs.Under.{none_near}
use Rattle.otp_driver.proofs.driver.Driver.is_nested.Goals as goal

pub returns-else-may_be_nested : goal.returns-else-may_be_nested
returns-else-may_be_nested c =
    sym (none_near c.args.self.now c.args.place c.args.number (search rules))
