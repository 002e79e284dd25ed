use Rattle.std.proofs.Common.{◌≡◌, ◌++◌, drop}
use Rattle.std.specs.List.{flat_map}
use Rattle.otp_commands.specs.Judged.{result_text}
use Rattle.otp_commands.proofs.judging.put_results.Given as goal

abbrev pub invariant-loop-judged : goal.invariant-loop-judged
invariant-loop-judged l = l.out.items ++ flat_map result_text (drop l.judged-index l.all) ≡ l.fn.out.items ++ flat_map result_text l.all
