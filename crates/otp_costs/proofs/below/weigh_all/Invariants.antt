use Rattle.std.proofs.Common.{◌≡◌, ◌++◌, drop, map}
use Rattle.otp_costs.specs.Below.{weighed, weighed_in}
use Rattle.otp_costs.proofs.below.weigh_all.Given as goal

abbrev pub invariant-loop-spec : goal.invariant-loop-spec
invariant-loop-spec l = l.children.items ++ map (weighed_in l.path l.seats) (drop l.spec-index l.specs) ≡ weighed l.path l.seats l.specs
