use Rattle.std.proofs.Common.{◌+◌, ◌∙◌, ap, length, refl, sym, subst, arith}
use Rattle.std.specs.Prelude.{Err, IfSome}
use Rattle.std.proofs.lemmas.List.{length-map}
use Rattle.otp_run.specs.Rule.{ticket_of}
use Rattle.otp_close.specs.Closes.{HaveBegun, IsComplete, IsReportOf, report_in}
use Rattle.otp_close.proofs.Refusals.{begun_from, none_missing}
use Rattle.otp_close.proofs.SparePlaces.{all_tables}
use Rattle.otp_close.proofs.Standings.{complete_kept}
use Rattle.otp_close.proofs.closing.finish.Goals as goal

pub returns-in-Ok-clause-whole : goal.returns-in-Ok-clause-whole
returns-in-Ok-clause-whole g c =
    let e = (c.in-Ok.ensures {u = tt}).report in
    let report = c.in-Ok.report in
    let total = e.live in
    record {
      count = refl;
      begins = e.begins;
      shown = e.shown;
      apart = e.apart;
      unsent = e.unsent;
      told = (c.in-Ok.ensures {u = tt}).told;
      processes = record {
        balance = e.begun ∙ total.balance ∙ ap (λ n. n + report.live) (sym e.ended);
        left = omega (arith, total.live_is, length-map report.processes.items ticket_of);
      };
      starts = e.starts;
      ends = e.ends;
    }

pub returns-in-Ok-clause-report : goal.returns-in-Ok-clause-report
returns-in-Ok-clause-report g c = λ all.
    let e = (c.in-Ok.ensures {u = tt}).report in
    let report = c.in-Ok.report in
    subst (λ n. IsReportOf n report) (all_tables g.N.PlanNaming.plan c.args.shared.tables (length report.tables.items) e.count all) (returns-in-Ok-clause-whole g c)

pub returns-in-Err-clause-plans : goal.returns-in-Err-clause-plans
returns-in-Err-clause-plans g c =
    let begun = begun_from g.N.PlanNaming.plan c.args.shared c.rouse_all.new.hands.items c.args.client (report_in (Err c.in-Err.fault)) (c.in-Err.ensures {u = tt}).report in
    subst (λ o. IfSome o (λ report. HaveBegun g.N.PlanNaming.plan report.tables.items)) (sym c.without_tree.ensures.report) begun

pub returns-in-Err-clause-missing : goal.returns-in-Err-clause-missing
returns-in-Err-clause-missing g c = λ whole.
    let hands = c.rouse_all.new.hands.items in
    let kept : IsComplete c.args.shared hands c.args.client = complete_kept c.args.shared c.args.hands.items hands c.args.client c.args.client c.rouse_all.ensures refl whole in
    c.without_tree.ensures.missing (none_missing _ c.in-Err.fault kept (c.in-Err.ensures {u = tt}).missing)

pub returns-in-Ok-clause-count : goal.returns-in-Ok-clause-count
returns-in-Ok-clause-count g c = (c.in-Ok.ensures {u = tt}).report.count

pub returns-in-Ok-clause-plans : goal.returns-in-Ok-clause-plans
returns-in-Ok-clause-plans g c = (c.in-Ok.ensures {u = tt}).report.plans
