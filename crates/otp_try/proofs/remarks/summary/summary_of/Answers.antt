use Rattle.otp_try.proofs.Stands.{summed}
use Rattle.otp_try.proofs.remarks.summary.summary_of.Goals as goal

pub returns : goal.returns
returns c =
    summed c.args.is_quiet c.args.is_played c.args.trial.now c.clock.result c.now.result c.seats.result.now c.in_ok-running.running.items c.as_slice.result.now c.in_ok-running.ensures.root.0
    c.planned.result.now c.inits.result.now c.hanging.result.now c.in_ok-lines.lines.items c.clock.ensures c.now.ensures.value c.seats.ensures c.in_ok-running.ensures.root.1 c.as_slice.ensures.value c.in_ok-lines.ensures
