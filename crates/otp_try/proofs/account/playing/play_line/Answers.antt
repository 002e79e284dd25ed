use Rattle.std.proofs.Common.{ap}
use Rattle.otp_script.specs.Lines.{saying}
use Rattle.otp_trial.specs.declared.steps.Outcome.{Outcome}
use Rattle.otp_try.proofs.Runs.{played}
use Rattle.otp_try.proofs.account.playing.play_line.Goals as goal

pub returns : goal.returns
returns c =
    played (saying c.args.step.when c.args.step.times c.args.step.path.now c.args.step.action) c.args.line.now c.in_ok-outcome.outcome.taken c.args.trial.now c.begin_line.new.self c.do_times.new.trial c.in_ok-one.one c.new-told.result.items c.do_times.new.out.items c.requires c.begin_line.ensures
    c.new-told.ensures.items c.in_ok-outcome.ensures.often c.in_ok-one.ensures.line c.in_ok-one.ensures.told (ap (λ (o : Outcome). o.taken) c.in_ok-one.ensures.came) c.in_ok-one.ensures.stands
