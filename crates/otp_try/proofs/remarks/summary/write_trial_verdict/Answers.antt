use Rattle.otp_try.proofs.Stands.{some_verdict}
use Rattle.otp_try.proofs.remarks.summary.write_trial_verdict.Goals as goal

pub returns : goal.returns
returns c =
    some_verdict c.write_verdict.result c.args.is_played c.args.trial.now c.clock.result c.seats.result.now c.in_ok-running.running.items c.as_slice.result.now c.in_ok-running.ensures.root.0
    c.args.out.now.items c.write_verdict.new.out.items c.clock.ensures c.seats.ensures c.in_ok-running.ensures.root.1 c.as_slice.ensures.value c.write_verdict.ensures
