use Rattle.std.proofs.Common.{◌≡◌, ◌++◌, drop}
use Rattle.otp_costs.specs.Alike.{is_alike}
use Rattle.otp_costs.specs.Groups.{names_with}
use Rattle.otp_costs.proofs.group.put_names.Given as goal

abbrev pub invariant-loop-other : goal.invariant-loop-other
invariant-loop-other l =
    l.names ++ names_with (is_alike l.grain l.strategy l.child) (drop l.other-index l.all)
    ≡ l.fn.names ++ names_with (is_alike l.grain l.strategy l.child) l.all
