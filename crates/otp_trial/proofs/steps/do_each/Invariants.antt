use Rattle.std.proofs.Common.{◌≤◌, max}
use Rattle.otp_script.specs.Lines.{saying}
use Rattle.otp_trial.specs.Steps.{TellsOften}
use Rattle.otp_trial.proofs.steps.do_each.Given as goal

abbrev pub invariant-loop-done : goal.invariant-loop-done
invariant-loop-done l = TellsOften (saying l.step.when l.step.times l.step.path.now l.step.action) l.done l.outcome.taken l.fn.trial l.trial l.fn.out.items l.out.items × (l.done ≤ max 1 l.step.times)
