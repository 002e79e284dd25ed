use Rattle.otp_try.proofs.Runs.{adds_more, adds_none}
use Rattle.otp_try.proofs.account.playing.play_lines.Goals as goal

pub loop-line-init : goal.loop-line-init
loop-line-init c = adds_none c.args.trial.now c.args.lines.now.items

pub loop-line-preserved : goal.loop-line-preserved
loop-line-preserved c =
    adds_more c.args.trial.now c.args.lines.now.items c.loop-line.trial c.loop-line.lines.items c.take_line.new.trial c.take_line.new.lines.items
    c.loop-line.invariant c.in_ok-take_line.ensures

pub returns-in-Some-2 : goal.returns-in-Some-2
returns-in-Some-2 c =
    adds_more c.args.trial.now c.args.lines.now.items c.loop-line.trial c.loop-line.lines.items c.take_line.new.trial c.take_line.new.lines.items
    c.loop-line.invariant c.in_ok-take_line.ensures
