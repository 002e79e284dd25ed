use Rattle.std.proofs.Common.{◌≡◌, ◌++◌, All, map, take, drop}
use Rattle.otp_draft.specs.Plans.{IsNear, body_at}
use Rattle.otp_draft.proofs.plan.number_each.Given as goal

abbrev pub invariant-loop-body : goal.invariant-loop-body
invariant-loop-body g l =
    record {
      near : All IsNear (drop l.body-index l.bodies);
      whole : take l.body-index l.bodies ++ map (body_at l.number) (drop l.body-index l.bodies) ≡ map (body_at l.number) l.fn.bodies;
    }
