use Rattle.std.proofs.Common.{◌≡◌, ◌++◌, drop}
use Rattle.std.specs.List.{flat_map}
use Rattle.otp_try.specs.Unused.{plan_line}
use Rattle.otp_try.proofs.remarks.unused.write_plans.Given as goal

abbrev pub invariant-loop-plan : goal.invariant-loop-plan
invariant-loop-plan l = l.out.items ++ flat_map (plan_line l.seats) (drop l.plan-index l.plans) ≡ l.fn.out.items ++ flat_map (plan_line l.seats) l.plans
