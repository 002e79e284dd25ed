use Rattle.otp.proofs.Begun.{none_bare, plans_back}
use Rattle.otp_tree.specs.Closes.{IsRunOpenFault}
use Rattle.otp_tree.specs.declared.whole.RunFault.TheVariants as run
use Rattle.otp.proofs.running.with_growing_tree.Goals as goal

pub returns-in-Err-with_growing_system-clause-back : goal.returns-in-Err-with_growing_system-clause-back
returns-in-Err-with_growing_system-clause-back g c =
    let made = c.in-Ok.ensures {u = tt} in
    let why = c.in-Err-with_growing_system.ensures {u = tt} in
    let of : IsRunOpenFault c.in-Ok.plans.items (run.Open c.in-Err-with_growing_system.why) = (why.fault, why.back) in (
      made.lawful,
      (tt, (tt, (none_bare c.in-Ok.plans.items (run.Open c.in-Err-with_growing_system.why) made.bodies of, plans_back c.in-Ok.plans.items c.args.tree.root (run.Open c.in-Err-with_growing_system.why) made.plans of))),
    )
