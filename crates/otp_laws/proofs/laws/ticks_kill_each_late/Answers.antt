use Rattle.otp_laws.proofs.Ticks.{ticks_kill_each_late_from_law, ticks_kill_each_late_law}
use Rattle.otp_laws.proofs.laws.ticks_kill_each_late.Goals as goal

pub returns : goal.returns
returns c = record { from_empty = ticks_kill_each_late_law; from_any = ticks_kill_each_late_from_law }
