use Rattle.std.proofs.Common.{◌≡◌, ◌++◌, drop}
use Rattle.otp_costs.specs.Alike.{is_alike}
use Rattle.otp_costs.specs.Groups.{groups_from}
use Rattle.otp_costs.proofs.group.put_groups.Given as goal

abbrev pub invariant-loop-child : goal.invariant-loop-child
invariant-loop-child l =
    l.groups.items ++ groups_from (is_alike l.grain l.strategy) l.all l.heads.items (drop l.child-index l.all)
    ≡ l.fn.groups.items ++ groups_from (is_alike l.grain l.strategy) l.all l.fn.heads.items l.all
