use Rattle.std.proofs.Common.{◌≡◌, ◌++◌, drop}
use Rattle.std.specs.List.{flat_map}
use Rattle.otp_try.specs.Unused.{init_line}
use Rattle.otp_try.proofs.remarks.unused.write_inits.Given as goal

abbrev pub invariant-loop-init : goal.invariant-loop-init
invariant-loop-init l = l.out.items ++ flat_map (init_line l.seats) (drop l.init-index l.inits) ≡ l.fn.out.items ++ flat_map (init_line l.seats) l.inits
