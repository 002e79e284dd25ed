use Rattle.std.proofs.Common.{◌≡◌, ◌<◌, arith, get_or, length, map}
use Rattle.otp_draft.specs.Plans.{IsNear, body_at}
use Rattle.otp_draft.proofs.Nears.{mapped_after, near_after}
use Rattle.otp_draft.proofs.plan.number_each.Goals as goal

pub loop-body-preserved : goal.loop-body-preserved
loop-body-preserved g c =
    let within = c.loop-body-test.true in
    let many = c.loop-body.auto.bodies in
    let inside : c.loop-body.body-index < length c.loop-body.bodies = omega (arith, within, many) in
    let bodies = c.loop-body.bodies in
    let place = c.loop-body.body-index in
    let one : c.number_body.new.body ≡ body_at c.args.number (get_or bodies place c.body-item.result) = c.number_body.ensures in
    record {
      near = near_after IsNear bodies place c.body-item.result c.number_body.new.body inside c.loop-body.invariant.near;
      whole = mapped_after (body_at c.args.number) bodies (map (body_at c.args.number) c.args.bodies.now) place c.body-item.result c.number_body.new.body inside one c.loop-body.invariant.whole;
    }
