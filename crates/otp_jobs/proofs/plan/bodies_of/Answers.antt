use Rattle.std.proofs.Common.{◌≡◌, ◌∷◌, ◌++◌, [], rules}
use Rattle.otp_jobs.proofs.PlanLemmas.{known_after, next_body}
use Rattle.otp_jobs.proofs.plan.bodies_of.Goals as goal

pub loop-place-preserved : goal.loop-place-preserved
loop-place-preserved c =
    let pushed : c.push.new.self.items ≡ c.loop-place.bodies.items ++ c.body_at-body.result ∷ [] = search rules in (
      rw pushed (next_body c.args.nested.now _ _ _ _ c.loop-place.place c.args.specs.now _ c.loop-place.bodies.items c.body_at-body.result _
          c.loop-place-test.true c.loop-place.invariant.0 c.body_at-body.ensures.body),
      known_after c.args.nested.now c.loop-place.place c.args.specs.now c.loop-place-test.true c.loop-place.invariant.1,
      rw c.body_at-body.ensures.within c.loop-place.invariant.2,
    )
