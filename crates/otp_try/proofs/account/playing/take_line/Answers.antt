use Rattle.otp_try.proofs.Runs.{adds_none}
use Rattle.otp_try.proofs.account.playing.take_line.Goals as goal

pub returns-in_ok-fault-in-Err : goal.returns-in_ok-fault-in-Err
returns-in_ok-fault-in-Err c = adds_none c.args.trial.now c.args.lines.now.items
