use Rattle.otp.proofs.Begun.{added_back, add_none_bare}
use Rattle.otp.proofs.adding.add_tree.Goals as goal

pub returns-in-Err-add_tree-clause-back : goal.returns-in-Err-add_tree-clause-back
returns-in-Err-add_tree-clause-back g c =
    let made = c.in-Ok.ensures {u = tt} in
    let why = c.in-Err-add_tree.ensures {u = tt} in (
      add_none_bare c.in-Ok.plans.items c.in-Err-add_tree.back.fault made.bodies why.fault,
      added_back c.in-Ok.plans.items c.args.tree c.in-Err-add_tree.back made.plans why.back,
    )
