use Rattle.std.proofs.Common.{length, subst}
use Rattle.otp_close.proofs.Standings.{complete_kept}
use Rattle.otp_close.specs.Closes.{HasTables}
use Rattle.otp_live.proofs.served.serve_named.Goals as goal

pub returns-in-Ok-finish_tree-clause-run : goal.returns-in-Ok-finish_tree-clause-run
returns-in-Ok-finish_tree-clause-run g c =
    let opened = c.in-Ok.ensures {u = tt} in
    let closed = c.in-Ok-finish_tree.ensures {u = tt} in
    record {
      count = subst (λ n. HasTables g.N.PlanNaming.plan n (length c.in-Ok-finish_tree.report.tables.items)) opened.tables closed.count;
      run = record { whole = closed.whole; begun = closed.plans; bodies = opened.bodies };
    }

pub returns-in-Err-finish_tree-clause-unrun : goal.returns-in-Err-finish_tree-clause-unrun
returns-in-Err-finish_tree-clause-unrun g c =
    let opened = c.in-Ok.all in
    let made = c.in-Ok.ensures {u = tt} in
    let closed = c.in-Err-finish_tree.ensures {u = tt} in
    let served = c.serve_locked-client in
    record {
      mismatch = closed.mismatch;
      missing = closed.missing (complete_kept opened.system opened.hands.items served.new.hands.items opened.client served.result served.ensures.hands served.ensures.client (made.complete c.requires.some));
      opened = made.bodies;
    }
