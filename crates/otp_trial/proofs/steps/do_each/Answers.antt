use Rattle.std.proofs.Common.{◌≡◌, arith, max}
use Rattle.otp_script.specs.Lines.{saying}
use Rattle.otp_trial.proofs.Doings.{often_first, often_more, times_all, times_some}
use Rattle.otp_trial.proofs.steps.do_each.Goals as goal

pub loop-done-init : goal.loop-done-init
loop-done-init c =
    let said = saying c.args.step.when c.args.step.times c.args.step.path.now c.args.step.action in
    (often_first said c.in_ok-outcome.outcome.taken c.args.trial.now c.do_step.new.trial c.args.out.now.items c.do_step.new.out.items c.in_ok-outcome.ensures, omega arith)

pub loop-done-preserved : goal.loop-done-preserved
loop-done-preserved c =
    let said = saying c.args.step.when c.args.step.times c.args.step.path.now c.args.step.action in (
      often_more said c.loop-done.done c.loop-done.outcome.taken c.in_ok-outcome-2.outcome.taken c.args.trial.now c.loop-done.trial c.do_step-in-loop-done.new.trial c.args.out.now.items c.loop-done.out.items
          c.do_step-in-loop-done.new.out.items c.loop-done.invariant.0 c.in_ok-outcome-2.ensures,
      omega (arith, c.loop-done-test.true),
    )

pub returns-then-not-goes_on : goal.returns-then-not-goes_on
returns-then-not-goes_on c =
    let said = saying c.args.step.when c.args.step.times c.args.step.path.now c.args.step.action in
    times_some said c.loop-done.done c.loop-done.outcome.taken c.args.trial.now c.loop-done.trial c.args.out.now.items c.loop-done.out.items
    c.has_ended.result c.goes_on.result c.loop-done.invariant.0 c.loop-done.auto.done c.loop-done.invariant.1 c.has_ended.ensures c.goes_on.ensures c.if-not-goes_on.true

pub returns : goal.returns
returns c =
    let said = saying c.args.step.when c.args.step.times c.args.step.path.now c.args.step.action in
    let all : c.loop-done.done ≡ max 1 c.args.step.times = omega (arith, c.loop-done-test.false, c.loop-done.auto.done, c.loop-done.invariant.1) in
    times_all said c.loop-done.done c.loop-done.outcome.taken c.args.trial.now c.loop-done.trial c.args.out.now.items c.loop-done.out.items
    c.loop-done.invariant.0 all c.loop-done.auto.done
