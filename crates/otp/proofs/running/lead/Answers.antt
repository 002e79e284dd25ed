use Rattle.otp.proofs.Begun.{have_begun_in, none_bare, plans_back}
use Rattle.otp_tree.specs.Closes.{IsRunOpenFault}
use Rattle.otp_tree.specs.declared.whole.RunFault.TheVariants as run
use Rattle.otp.proofs.running.lead.Goals as goal

pub returns-in-Ok-lead-clause-plans : goal.returns-in-Ok-lead-clause-plans
returns-in-Ok-lead-clause-plans g c =
    have_begun_in c.in-Ok.plans.items c.args.root c.in-Ok-lead.led.report (c.in-Ok.ensures {u = tt}).plans (c.in-Ok-lead.ensures {u = tt}).plans

pub returns-in-Err-lead-clause-back : goal.returns-in-Err-lead-clause-back
returns-in-Err-lead-clause-back g c =
    let made = c.in-Ok.ensures {u = tt} in
    let why = c.in-Err-lead.ensures {u = tt} in
    let of : IsRunOpenFault c.in-Ok.plans.items (run.Open c.in-Err-lead.why) = (why.fault, why.back) in (
      made.lawful,
      (tt, (tt, (none_bare c.in-Ok.plans.items (run.Open c.in-Err-lead.why) made.bodies of, plans_back c.in-Ok.plans.items c.args.root (run.Open c.in-Err-lead.why) made.plans of))),
    )
