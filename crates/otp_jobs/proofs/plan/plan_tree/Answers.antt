use Rattle.otp_jobs.proofs.Enough.{have_bodies}
use Rattle.otp_jobs.proofs.plan.plan_tree.Goals as goal

pub returns-clause-bodies : goal.returns-clause-bodies
returns-clause-bodies c = have_bodies c.in_ok-plan_all.field-0.items _ c.in_ok-plan_all.ensures.plans
