use Rattle.std.proofs.Common.{◌≤◌}
use Rattle.otp_json.proofs.text.write_json_text.Given as goal

abbrev pub invariant-loop : goal.invariant-loop
invariant-loop g l = (g.W.Output.seen l.fn.output).failures ≤ (g.W.Output.seen l.output).failures
