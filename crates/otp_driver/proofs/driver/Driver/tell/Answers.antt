use Rattle.std.proofs.Common.{◌<◌, length, rules}
use Rattle.otp_driver.proofs.Within.{told_within}
use Rattle.otp_driver.proofs.driver.Driver.tell.Goals as goal

pub set_link-requires-clause-parent : goal.set_link-requires-clause-parent
set_link-requires-clause-parent c =
    let before : c.index-link.result.now.parent < length c.args.self.now.links = search rules in
    told_within c.args.note c.args.ended c.index-link.result.now c.told.result (length c.args.self.now.links) before c.told.ensures
