use Rattle.std.proofs.Common.{sym}
use Rattle.otp_spec.proofs.check.repeats.Goals as goal

pub returns-else-may_repeat : goal.returns-else-may_repeat
returns-else-may_repeat c = sym (c.requires c.if-may_repeat.false)
