use Rattle.std.proofs.Common.{◌∙◌, subst}
use Rattle.otp_close.specs.Closes.{IsReportOf}
use Rattle.otp_file.specs.Trees.{tables_of}
use Rattle.otp_jobs.proofs.Begun.{have_begun, none_bare, opened_at}
use Rattle.otp_jobs.proofs.run.run_worked.Goals as goal

pub fault_of-requires-clause-bodies : goal.fault_of-requires-clause-bodies
fault_of-requires-clause-bodies g c = none_bare c.in_ok-plans.plans.items c.in-Err.why (c.in_ok-plans.ensures {u = tt}).bodies (c.in-Err.ensures {u = tt}).unrun.opened

pub returns-in-Ok-write_run-clause-run : goal.returns-in-Ok-write_run-clause-run
returns-in-Ok-write_run-clause-run g c =
    let run = c.in-Ok.whole in
    let made = c.in-Ok.ensures {u = tt} in
    let plans = c.in_ok-plans.ensures {u = tt} in
    record {
      counts = made.counts ∙ plans.count;
      report = subst (λ n. IsReportOf n run.report) plans.count made.run.whole;
      plans = have_begun _ _ run.report.tables.items (opened_at c.in_ok-plans.plans.items (tables_of c.args.tree) plans.plans) made.run.begun;
    }
