use Rattle.otp_script.specs.Lines.{saying}
use Rattle.otp_trial.proofs.Doings.{tells_at}
use Rattle.otp_trial.proofs.steps.do_at.Goals as goal

pub returns : goal.returns
returns c =
    tells_at (saying c.args.step.when c.args.step.times c.args.step.path.now c.args.step.action) c.args.time c.in_ok-taken.taken c.args.trial.now c.go_to.new.self c.act.new.trial
    c.args.out.now.items c.go_to.new.out.items c.act.new.out.items
    c.in_ok-go_to.ensures.told c.in_ok-go_to.ensures.time c.in_ok-taken.ensures.told c.in_ok-taken.ensures.time c.in_ok-taken.ensures.deed
