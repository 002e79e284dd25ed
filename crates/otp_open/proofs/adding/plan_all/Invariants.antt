use Rattle.std.proofs.Common.{◌≡◌, ◌+◌, ◌≤◌, false, true, length}
use Rattle.otp_open.specs.Adds.{AreNear, ArePlannedFrom, Fit, IsAnyOccupied}
use Rattle.otp_open.specs.Plans.{HaveBodies}
use Rattle.otp_open.proofs.adding.plan_all.Given as goal

abbrev pub invariant-loop-plan : goal.invariant-loop-plan
invariant-loop-plan g l =
    record {
      left : l.plan-iterator.rest.len ≡ length l.plan-iterator.rest.items;
      left_spaces : l.spaces.rest.len ≡ length l.spaces.rest.items;
      count : l.number + length l.plan-iterator.rest.items ≡ l.fn.first + length l.fn.plans.items;
      from_first : l.fn.first ≤ l.number;
      bodies : HaveBodies l.plan-iterator.rest.items;
      near : AreNear l.plan-iterator.rest.items;
      fit : Fit l.plan-iterator.rest.items l.spaces.rest.items;
      planned : l.are_all ≡ true → ArePlannedFrom g.N.PlanNaming.plan l.number l.plan-iterator.rest.items → ArePlannedFrom g.N.PlanNaming.plan l.fn.first l.fn.plans.items;
      occupied : l.are_all ≡ false → IsAnyOccupied g.N.PlanNaming.plan;
    }
