use Rattle.otp_rules.proofs.Late.{ticks_kill_late_from_empty, ticks_kill_late_law, work_awaits_law}
use Rattle.otp_rules.proofs.laws.ticks_kill_late.Goals as goal

pub returns : goal.returns
returns c = record { awaits = work_awaits_law; from_any = ticks_kill_late_law; from_empty = ticks_kill_late_from_empty }
