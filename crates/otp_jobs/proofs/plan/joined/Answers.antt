use Rattle.std.proofs.Common.{◌≡◌, ◌∷◌, ◌∙◌, arith, ap, rules}
use Rattle.otp_jobs.specs.Plans.{total}
use Rattle.otp_jobs.proofs.PlanLemmas.{join_next}
use Rattle.otp_jobs.proofs.plan.joined.Goals as goal

pub loop-preserved : goal.loop-preserved
loop-preserved c =
    let is : c.loop.rest.now ≡ c.in-Some.first.now ∷ c.in-Some.others.now = search rules in
    let whole = ap total is in (
      join_next c.loop.size c.args.count c.loop.counter c.in-Some.first.now c.in-Some.others.now c.loop-test.true
          ∙ rw (← is) c.loop.invariant.0,
      let size : total c.loop.rest.now ≡ total (c.in-Some.first.now ∷ c.in-Some.others.now) = whole in
          omega (arith, size, c.loop.invariant.1),
    )
