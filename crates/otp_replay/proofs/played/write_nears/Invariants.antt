use Rattle.std.proofs.Common.{◌≡◌, ◌++◌, drop}
use Rattle.std.specs.List.{flat_map}
use Rattle.otp_replay.specs.Told.{near_line}
use Rattle.otp_replay.proofs.played.write_nears.Given as goal

abbrev pub invariant-loop-one : goal.invariant-loop-one
invariant-loop-one l = l.out.items ++ flat_map (near_line l.name) (drop l.one-index l.near) ≡ l.fn.out.items ++ flat_map (near_line l.name) l.near
