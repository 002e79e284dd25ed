use Rattle.std.proofs.Common.{◌≡◌, drop}
use Rattle.std.specs.List.{list_any}
use Rattle.std.specs.Str.{bytes_eq}
use Rattle.otp_costs.specs.Groups.{below}
use Rattle.otp_costs.proofs.pick.has_child.Given as goal

abbrev pub invariant-loop-name : goal.invariant-loop-name
invariant-loop-name l =
    list_any (λ name. bytes_eq (below l.path name) l.whole) (drop l.name-index l.names)
    ≡ list_any (λ name. bytes_eq (below l.path name) l.whole) l.names
