use Rattle.std.proofs.Common.{◌∙◌}
use Rattle.otp_file.specs.Trees.{tables_of}
use Rattle.otp_jobs.proofs.Begun.{opened_at}
use Rattle.otp_jobs.proofs.Same.{bodies_kept, same_at}
use Rattle.otp_jobs.proofs.serving.serve.plan_patiently.Goals as goal

pub returns-in-Ok-clause-supervisors : goal.returns-in-Ok-clause-supervisors
returns-in-Ok-clause-supervisors c = λ number.
    same_at c.in-Ok.plans.items c.in_ok-plans.plans.items (c.in-Ok.ensures {u = tt}).plans number ∙ opened_at c.in_ok-plans.plans.items (tables_of c.args.tree) (c.in_ok-plans.ensures {u = tt}).plans number

pub returns-in-Ok-clause-bodies : goal.returns-in-Ok-clause-bodies
returns-in-Ok-clause-bodies c = bodies_kept c.in-Ok.plans.items c.in_ok-plans.plans.items (c.in-Ok.ensures {u = tt}).plans (c.in_ok-plans.ensures {u = tt}).bodies
