use Rattle.std.proofs.Common.{◌≡◌, ◌++◌, drop}
use Rattle.std.specs.List.{flat_map}
use Rattle.otp_try.specs.Unused.{hang_line}
use Rattle.otp_try.proofs.remarks.unused.write_hanging.Given as goal

abbrev pub invariant-loop-hang : goal.invariant-loop-hang
invariant-loop-hang l =
    l.out.items ++ flat_map (hang_line l.seats) (drop l.hang-index l.hanging) ≡ l.fn.out.items ++ flat_map (hang_line l.seats) l.hanging
