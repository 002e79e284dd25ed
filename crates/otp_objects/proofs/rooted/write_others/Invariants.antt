use Rattle.std.proofs.Common.{◌≡◌, ◌++◌, drop}
use Rattle.std.specs.List.{flat_map}
use Rattle.otp_objects.specs.Rooted.{next_lever}
use Rattle.otp_objects.proofs.rooted.write_others.Given as goal

abbrev pub invariant-loop-lever : goal.invariant-loop-lever
invariant-loop-lever l = l.out.items ++ flat_map next_lever (drop l.lever-index l.levers) ≡ l.fn.out.items ++ flat_map next_lever l.levers
