use Rattle.std.proofs.Common.{rules, ◌≡◌, [], ◌∷◌, ◌++◌}
use Rattle.otp_try.proofs.Runs.{adds_none, adds_one}
use Rattle.otp_try.proofs.account.playing.take_step.Goals as goal

pub returns-then-is_silent : goal.returns-then-is_silent
returns-then-is_silent c = adds_none c.args.trial.now c.args.lines.now.items

pub returns : goal.returns
returns c =
    let put : c.push.new.self.items ≡ c.args.lines.now.items ++ c.in_ok-one.one ∷ [] = search rules in
    adds_one c.args.trial.now c.args.lines.now.items c.play_line.new.trial c.push.new.self.items c.in_ok-one.one c.in_ok-one.ensures put
