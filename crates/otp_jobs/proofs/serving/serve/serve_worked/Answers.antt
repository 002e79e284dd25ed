use Rattle.std.proofs.Common.{subst}
use Rattle.otp_close.specs.Closes.{IsReportOf}
use Rattle.otp_jobs.proofs.Begun.{have_begun, none_bare}
use Rattle.otp_jobs.proofs.serving.serve.serve_worked.Goals as goal

pub fault_of-requires-clause-bodies : goal.fault_of-requires-clause-bodies
fault_of-requires-clause-bodies g c = none_bare c.in_ok-plans.plans.items c.in-Err.why (c.in_ok-plans.ensures {u = tt}).bodies (c.in-Err.ensures {u = tt}).unrun.opened

pub returns-in-Ok-write_served-clause-plans : goal.returns-in-Ok-write_served-clause-plans
returns-in-Ok-write_served-clause-plans g c = have_begun _ _ c.in-Ok.report.tables.items (c.in_ok-plans.ensures {u = tt}).supervisors (c.in-Ok.ensures {u = tt}).run.begun

pub returns-in-Ok-write_served-clause-served : goal.returns-in-Ok-write_served-clause-served
returns-in-Ok-write_served-clause-served g c = subst (λ n. IsReportOf n c.in-Ok.report) (c.in_ok-plans.ensures {u = tt}).count (c.in-Ok.ensures {u = tt}).run.whole
