use Rattle.std.proofs.Common.{◌∙◌, subst, sym}
use Rattle.otp_close.proofs.Standings.{complete_kept}
use Rattle.otp_close.specs.Closes.{IsReportOf}
use Rattle.otp_open.proofs.SparePlaces.{all_planned, each_planned}
use Rattle.otp_sup.specs.Plans.{AreAllPlanned}
use Rattle.otp_tree.proofs.whole.run_named.Goals as goal

pub named-requires-clause-plans : goal.named-requires-clause-plans
named-requires-clause-plans g c = each_planned g.N.PlanNaming.plan c.args.parts.plans.items c.requires.plans

pub returns-in-Ok-finish_tree-clause-run : goal.returns-in-Ok-finish_tree-clause-run
returns-in-Ok-finish_tree-clause-run g c =
    let plans = g.N.PlanNaming.plan in
    let opened = c.in-Ok-named.ensures {u = tt} in
    let closed = c.in-Ok-finish_tree.ensures {u = tt} in
    let all = subst (λ n. AreAllPlanned plans n) (c.requires.as_many ∙ sym opened.tables) (all_planned plans c.args.parts.plans.items c.requires.plans) in
    record {
      whole = subst (λ n. IsReportOf n c.in-Ok-finish_tree.report) opened.tables (closed.report all);
      begun = closed.plans;
      bodies = opened.bodies;
    }

pub returns-in-Err-finish_tree-clause-unrun : goal.returns-in-Err-finish_tree-clause-unrun
returns-in-Err-finish_tree-clause-unrun g c =
    let opened = c.in-Ok-named.opened in
    let made = c.in-Ok-named.ensures {u = tt} in
    let closed = c.in-Err-finish_tree.ensures {u = tt} in
    let run = c.run_both in
    record {
      mismatch = closed.mismatch;
      missing = closed.missing (complete_kept opened.system opened.hands.items run.new.hands.items opened.client run.new.client run.ensures.hands run.ensures.client (made.complete c.requires.some));
      opened = made.bodies;
    }
