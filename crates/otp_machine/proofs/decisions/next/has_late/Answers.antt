use Rattle.std.proofs.Common.{sym}
use Rattle.otp_machine.proofs.Deadlines.{none_come}
use Rattle.otp_machine.proofs.decisions.next.has_late.Goals as goal

pub returns-then-now-soonest : goal.returns-then-now-soonest
returns-then-now-soonest c = sym (none_come c.args.now c.soonest.result c.args.rows.now.rows c.if-now-soonest.true c.soonest.ensures)
