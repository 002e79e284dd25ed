use Rattle.std.proofs.Common.{◌∙◌}
use Rattle.otp_table.proofs.Soonest.{none_before}
use Rattle.otp_table.proofs.deadlines.soonest_of.Goals as goal

pub returns-then-timed-eq0 : goal.returns-then-timed-eq0
returns-then-timed-eq0 c rows is are = none_before _ rows (is ∙ c.if-timed-eq0.true)
