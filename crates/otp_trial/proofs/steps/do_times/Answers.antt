use Rattle.otp_script.specs.Lines.{saying}
use Rattle.otp_trial.proofs.Doings.{times_told}
use Rattle.otp_trial.proofs.steps.do_times.Goals as goal

pub returns-clause-told : goal.returns-clause-told
returns-clause-told c =
    times_told c.do_each.result (saying c.args.step.when c.args.step.times c.args.step.path.now c.args.step.action) c.args.trial.now c.do_each.new.trial c.args.out.now.items c.do_each.new.out.items c.do_each.ensures
