use Rattle.std.proofs.Common.{subst, sym}
use Rattle.std.specs.Prelude.{IfOk, length}
use Rattle.otp_close.specs.Closes.{HasTables, IsFreeFrom, IsReportOf}
use Rattle.otp_hand.specs.Hands.{SystemView}
use Rattle.otp_sup.specs.Plans.{AreAllPlanned}
use Rattle.otp_tree.proofs.closing.finish_tree.Goals as goal

pub finish-requires : goal.finish-requires
finish-requires g c = subst (λ (v : SystemView). IsFreeFrom g.N.PlanNaming.plan v.tables c.known-known.result) (sym c.into_parts-shared.ensures) c.known-known.ensures

pub returns-clause-report : goal.returns-clause-report
returns-clause-report g c =
    let plans = g.N.PlanNaming.plan in
    subst (λ (v : SystemView). AreAllPlanned plans v.tables → IfOk c.finish.result (IsReportOf v.tables)) c.into_parts-shared.ensures c.finish.ensures.report

pub returns-clause-count : goal.returns-clause-count
returns-clause-count g c =
    let plans = g.N.PlanNaming.plan in
    subst (λ (v : SystemView). IfOk c.finish.result (λ report. HasTables plans v.tables (length report.tables.items))) c.into_parts-shared.ensures c.finish.ensures.count
