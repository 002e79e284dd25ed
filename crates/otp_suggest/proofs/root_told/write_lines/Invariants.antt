use Rattle.std.proofs.Common.{◌≡◌, ◌++◌, drop}
use Rattle.std.specs.List.{flat_map}
use Rattle.otp_suggest.specs.RootTold.{lever_text}
use Rattle.otp_suggest.proofs.root_told.write_lines.Given as goal

abbrev pub invariant-loop-lever : goal.invariant-loop-lever
invariant-loop-lever l = l.out.items ++ flat_map lever_text (drop l.lever-index l.levers) ≡ l.fn.out.items ++ flat_map lever_text l.levers
