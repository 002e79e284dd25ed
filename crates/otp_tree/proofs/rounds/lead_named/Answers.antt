use Rattle.std.proofs.Common.{◌≡◌, ap, subst, sym, ◌∙◌}
use Rattle.std.specs.Prelude.{IfOk}
use Rattle.otp_close.proofs.Standings.{complete_kept}
use Rattle.otp_close.specs.Closes.{IsReportOf}
use Rattle.otp_open.proofs.SparePlaces.{all_planned, each_planned}
use Rattle.otp_sup.specs.Plans.{AreAllPlanned}
use Rattle.otp_hand.specs.Standings.{reach_of, standings}
use Rattle.otp_tree.proofs.rounds.lead_named.Goals.{else-loop-test, then-loop-test+then-not-make_round}
use Rattle.otp_tree.proofs.rounds.lead_named.Goals as goal

pub named-requires-clause-plans : goal.named-requires-clause-plans
named-requires-clause-plans g c = each_planned g.N.PlanNaming.plan c.args.parts.plans.items c.requires.plans

pub returns-clause-report : goal.returns-clause-report
returns-clause-report g c =
    let plans = g.N.PlanNaming.plan in
    let tables = (c.in-Ok.ensures {u = tt}).tables in
    let all = subst (λ n. AreAllPlanned plans n) (c.requires.as_many ∙ sym tables) (all_planned plans c.args.parts.plans.items c.requires.plans) in
    subst (λ n. IfOk c.finish_tree-report.result (IsReportOf n)) tables (c.finish_tree-report.ensures.report all)

pub returns-clause-missing : goal.returns-clause-missing
returns-clause-missing g c =
    let opened = c.in-Ok.opened in
    let whole = (c.in-Ok.ensures {u = tt}).complete c.requires.some in
    let stands : standings c.loop-test.hands.items ≡ standings opened.hands.items = elim c.loop-test.branch [ else-loop-test w ↦ ap (λ h. standings h.items) w.hands-is ∙ c.loop.invariant.0 | then-loop-test+then-not-make_round w ↦ ap (λ h. standings h.items) w.hands-is ∙ (w.if-not-make_round.ensures {u = tt}).hands ∙ c.loop.invariant.0 ] in
    let reaches : reach_of c.loop-test.client ≡ reach_of opened.client = elim c.loop-test.branch [ else-loop-test w ↦ ap reach_of w.client-is ∙ c.loop.invariant.1 | then-loop-test+then-not-make_round w ↦ ap reach_of w.client-is ∙ (w.if-not-make_round.ensures {u = tt}).client ∙ w.root_note.ensures.reach ∙ c.loop.invariant.1 ] in
    c.finish_tree-report.ensures.missing (complete_kept opened.system opened.hands.items c.loop-test.hands.items opened.client c.loop-test.client stands reaches whole)
